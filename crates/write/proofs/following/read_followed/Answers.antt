use Rattle.std.proofs.Common.{Bool, None, Option, Some, ap, option_map, refl, sym, ◌∙◌, ◌≡◌}
use Rattle.std.specs.FinMap as finite
use Rattle.store.specs.Database.{Database, history_at}
use Rattle.tree.proofs.Shown.{inside}
use Rattle.couch_json.specs.Value.{Value}
use Rattle.couch_json.specs.View.{view}
use Rattle.couch_json.specs.declared.value.Json.{Json}
use Rattle.tree.specs.History.{HistoryContent, with_new}
use Rattle.tree.specs.declared.entry.Held.{Held}
use Rattle.write.specs.Admission.{rule_refusal}
use Rattle.write.proofs.FollowedRules.{followed_rule, there_is}
use Rattle.write.specs.declared.document.ParsedDocument.{ParsedDocument}
use Rattle.write.proofs.Unruled.{design_unruled, no_refusal}
use Rattle.write.proofs.following.read_followed.Goals.{then-is_design-via-then-is_design, then-is_design-via-else-is_design+then-has_no_rules}
use Rattle.write.proofs.following.read_followed.Goals as goal

pub returns-then-is_design-clause-ruled : goal.returns-then-is_design-clause-ruled
returns-then-is_design-clause-ruled g c honest =
    let terms = c.args.terms.now in
    let id = c.args.id.now in
    let unruled : (h : HistoryContent) (sent : ParsedDocument) → rule_refusal terms id h sent c.args.rev ≡ None = elim c.then-is_design.branch [
      | then-is_design-via-then-is_design w ↦ λ h sent. design_unruled terms id h sent c.args.rev (sym c.is_design.ensures ∙ w.if-is_design.true)
      | then-is_design-via-else-is_design+then-has_no_rules w ↦ λ h sent. no_refusal terms id h sent c.args.rev (sym w.has_no_rules.ensures ∙ w.if-has_no_rules.true)
    ] in
    there_is (finite.get (g.S.Store.contents c.args.store.now) c.args.db.now) (λ d is sent. unruled (history_at d id) sent ∙ sym (unruled c.new-history.result sent))

pub returns-clause-ruled : goal.returns-clause-ruled
returns-clause-ruled g c honest =
    there_is (finite.get (g.S.Store.contents c.args.store.now) c.args.db.now) (λ d is sent.
    let terms = c.args.terms.now in
    let r = c.in-Some.rev in
    let answer = c.in_ok-known.ensures.answer honest in
    let known : finite.get (history_at d c.args.id.now) r ≡ c.in_ok-known.known = inside _ c.in_ok-known.known (ap (option_map (λ (x : Database). finite.get (history_at x c.args.id.now) r)) (sym is) ∙ answer) in
    let held = c.take_held.result in
    let own : c.put_revision.new.self ≡ with_new finite.empty r (record { parent = None; held = kept held }) =
    c.in_ok-put_revision.ensures.ok ∙ ap (λ (h : HistoryContent). with_new h r (record { parent = None; held = kept held })) c.new-history.ensures in
    let same = followed_rule terms c.args.id.now (history_at d c.args.id.now) r c.in_ok-known.known _ known (twice held ∙ c.take_held.ensures) sent in
    (λ i. rule_refusal terms c.args.id.now (history_at d c.args.id.now) sent (c.in-Some.is i))
    ∙ same
    ∙ (λ i. rule_refusal terms c.args.id.now (sym own i) sent (sym c.in-Some.is i)))
  where
    kept : Option (Bool × Json) → Option Held
    kept o = option_map {U = Held} (λ (d : Bool × Value). record { deleted = d.0; body = d.1 }) (option_map {U = Bool × Value} (λ (h : Bool × Json). (h.0, view h.1)) o)

    twice : (o : Option (Bool × Json)) → kept o ≡ option_map {U = Held} (λ (h : Bool × Json). record { deleted = h.0; body = view h.1 }) o
    twice None = refl
    twice (Some h) = refl
