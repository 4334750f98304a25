use Rattle.std.specs.Prelude.{⊤}
use Rattle.std.proofs.Common.{◌≡◌, ℕ, List, ◌<◌, ◌+◌, ◌-◌, [], ◌∷◌, ◌++◌, length, map as list_map, take, nat_cmp, sym, ap, ◌∙◌, arith, rules}
use Rattle.std.proofs.lemmas.List.{take_more}
use Rattle.std.specs.Cmp.Lexicographic.{slice_cmp}
use Rattle.std.specs.FinMap.{put}
use Rattle.store.specs.Plain.{keys_put}
use Rattle.store.proofs.Orders.{keys_put-push}
use Rattle.store.proofs.Plains.{keys-contents_of}
use Rattle.store.proofs.databases.names_of.Goals as goal

pub loop-at-preserved : goal.loop-at-preserved
loop-at-preserved c =
    let es = c.args.databases.now.items in
    let e = c.index.result.now in
    let among = c.loop-at.names.entries in
    let before = c.loop-at.at - 1 in
    let within : c.loop-at.at - 1 < length c.args.databases.now.items = search rules in
    let back : c.loop-at.at - 1 + 1 ≡ c.loop-at.at = omega arith in
    let R = slice_cmp nat_cmp in
    let pushed = take_more es before e within ∙ ap (λ f. take before es ++ f ∷ []) (sym c.index.ensures) in
    let here : put (slice_cmp nat_cmp) e.0 tt among ≡ c.put_sorted.new.entries.entries = ap (λ n. put (slice_cmp nat_cmp) n tt among) (sym c.in_ok-copy.ensures) ∙ sym {A = List (List ℕ × ⊤)} c.in_ok-put_sorted.ensures.ok in
    ap (λ ns. keys_put R (take before es) ns) (sym here) ∙ sym (keys_put-push R (take before es) e among)
    ∙ ap (λ f. keys_put R f among) (sym pushed ∙ ap (λ n. take n es) back) ∙ c.loop-at.invariant

pub returns : goal.returns
returns c =
    let es = c.args.databases.now.items in
    let none : c.loop-at.at ≡ 0 = omega arith in
    let all : c.loop-at.names.entries ≡ keys_put (slice_cmp nat_cmp) c.args.databases.now.items [] = ap (λ n. keys_put (slice_cmp nat_cmp) (take n es) c.loop-at.names.entries) (sym none) ∙ c.loop-at.invariant in
    c.in_ok-list_keys.ensures ∙ ap (list_map (λ e. e.0)) all ∙ keys-contents_of es
