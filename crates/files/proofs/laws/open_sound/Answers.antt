use Rattle.std.proofs.Common.{◌≡◌, ◌∙◌, ◌⊎◌, Bool, true, false, inl, inr, subst, sym, true≢false}
use Rattle.sqlite.specs.Effect.{Database}
use Rattle.sqlstore.specs.declared.open_fault.OpenFault.{OpenFault}
use Rattle.sqlstore.specs.declared.open_fault.OpenFault.TheVariants.{NotOurs}
use Rattle.tables.specs.Layout.{IsStore}
use Rattle.file_check.specs.Verdicts.{Vouches}
use Rattle.file_check.specs.declared.finding.Counts.{Counts}
use Rattle.file_check.specs.declared.finding.Verdict.{Verdict}
use Rattle.file_check.specs.declared.finding.Verdict.TheVariants.{Sound}
use Rattle.files.specs.declared.sound_fault.SoundFault.TheVariants.{Unopened}
use Rattle.files.proofs.laws.open_sound.Goals as goal

same_fault : (a b : OpenFault) → Unopened a ≡ Unopened b → a ≡ b
same_fault a b e = cc

-- what is called sound, outside of a transaction, is one of ours
is_ours : (Clean : Type 0) (db now : Database) (verdict : Verdict) (counts : Counts) (outside inside : Bool) → now ≡ db → inside ≡ outside → verdict ≡ Sound counts → Vouches db verdict
    → outside ≡ false → Clean → ¬ ((inside ≡ true) ⊎ (Clean → ¬ IsStore now))
is_ours Clean db now verdict counts outside inside same mode sound vouches out clean (inl is) = absurd (true≢false (sym is ∙ mode ∙ out))
is_ours Clean db now verdict counts outside inside same mode sound vouches out clean (inr none) =
    let store = subst (λ (v : Verdict). Vouches db v) sound vouches in
    none clean (subst IsStore (sym same) store.rows.store)

pub returns-in-Err-open-clause-ours : goal.returns-in-Err-open-clause-ours
returns-in-Err-open-clause-ours g c = λ clean kept out is.
    let before = (c.in-Err-open.ensures.shut clean).0 in
    let stays = c.in-Ok-Sound.ensures.stays before kept in
    is_ours _ _ _ c.in-Ok-Sound.field-0 c.in-Ok-Sound.field-0-0 _ _ stays.now stays.mode c.in-Ok-Sound.field-0-is (c.in-Ok-Sound.ensures.sound before kept) out clean
    (c.in-Err-open.ensures.not_ours (same_fault c.in-Err-open.fault NotOurs is))
