use Rattle.std.proofs.Common.{◌≡◌, ◌≢◌, ◌+◌, ◌++◌, [], ◌∷◌, subst, sym, arith, rules}
use Rattle.couch_json.proofs.KeyReading.{TextLeft, text_ends, text_fails, text_goes, text_marked}
use Rattle.couch_json.proofs.key_reading.read_bytes.Goals as goal
use Rattle.couch_json.proofs.key_reading.read_bytes.Goals.{then-byte-eq0+in-Some-split_first+else-mark-eq0, else-byte-eq0}

pub returns-in_default-clause-none : goal.returns-in_default-clause-none
returns-in_default-clause-none c =
    let l = c.loop-count in
    λ _. text_fails c.args.bytes.now l.text.items l.rest.now l._count l.invariant (λ _. omega (arith, c.in_default.ensures.cases))

pub returns-in_default-split_first-clause-none : goal.returns-in_default-split_first-clause-none
returns-in_default-split_first-clause-none c =
    let l = c.loop-count in
    λ _. text_fails c.args.bytes.now l.text.items l.rest.now l._count l.invariant (λ _. omega (arith, c.in-Some.ensures.cases.1, c.in_default-split_first.ensures.cases))

pub returns-then-mark-eq0-clause-value : goal.returns-then-mark-eq0-clause-value
returns-then-mark-eq0-clause-value c =
    let l = c.loop-count in
    let after = c.in-Some-split_first.after.now in
    let ends : l.rest.now ≡ 0 ∷ 0 ∷ after = search rules in
    text_ends c.args.bytes.now l.text.items after l._count (subst (λ rest. TextLeft c.args.bytes.now l.text.items rest l._count) ends l.invariant)

pub loop-count-preserved : goal.loop-count-preserved
loop-count-preserved c =
    let l = c.loop-count in
    let bytes = c.args.bytes.now in
    let byte = c.in-Some.byte.now in
    let pushed : c.push.new.self.items ≡ l.text.items ++ byte ∷ [] = search rules in
    let goes : TextLeft bytes (l.text.items ++ byte ∷ []) c.if-byte-eq0.rest.now (l._count + 1) =
    elim c.if-byte-eq0.branch [
      | then-byte-eq0+in-Some-split_first+else-mark-eq0 w ↦
          let mark = w.in-Some-split_first.mark.now in
          let zero : byte ≡ 0 = search rules in
          let steps : l.rest.now ≡ 0 ∷ mark ∷ c.if-byte-eq0.rest.now = search rules in
          let marked : mark ≢ 0 = search rules in
          rw zero (text_marked bytes l.text.items c.if-byte-eq0.rest.now mark l._count (subst (λ rest. TextLeft bytes l.text.items rest l._count) steps l.invariant) marked)
      | else-byte-eq0 w ↦
          let steps : l.rest.now ≡ byte ∷ c.if-byte-eq0.rest.now = search rules in
          let some : byte ≢ 0 = search rules in
          text_goes bytes l.text.items c.if-byte-eq0.rest.now byte l._count (subst (λ rest. TextLeft bytes l.text.items rest l._count) steps l.invariant) some
    ] in
    subst (λ done. TextLeft bytes done c.if-byte-eq0.rest.now (l._count + 1)) (sym pushed) goes

pub returns-clause-none : goal.returns-clause-none
returns-clause-none c =
    let l = c.loop-count in
    λ _. text_fails c.args.bytes.now l.text.items l.rest.now l._count l.invariant (λ few. omega (arith, few, c.loop-count-test.false))
