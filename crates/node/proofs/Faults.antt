-- A fault that a store's caller can't mend has a cause.
use Rattle.std.proofs.Common.{◌≡◌, ◌≢◌, ◌≤◌, ◌∙◌, ◌⊎◌, ◌^◌, ◌-◌, ℕ, Bool, false, nat_eq, nat_lt, refl, ap, sym, IfErr, List, Option, Some, None, Result, Ok, Err, true, is_some, subst, arith, inl, inr, option_map}
use Rattle.std.specs.FinMap.{get, insert}
use Rattle.store.specs.Calls.{OnlyReads}
use Rattle.store.specs.Causes.{HasFailed}
use Rattle.store.specs.Contents.{Contents}
use Rattle.store.specs.Contents.{IsThereWith}
use Rattle.store.specs.Database.{Database, with_all}
use Rattle.store.specs.Writing.{additions, writings_in}
use Rattle.store.specs.declared.fault.StoreFault.TheVariants.{Memory, Failed, NoDatabase, Exists, Damaged, Full}
use Rattle.store.specs.declared.store.Store.{Ghosts}
use Rattle.write.specs.Planning.{LacksRoomFor, database_after}
use Rattle.write.specs.Refusing.{IsOfStoreOrMemory, Refuses}
use Rattle.write.specs.declared.planned.Changes.{Changes}
use Rattle.write.specs.declared.planned.Changes.TheVariants.{Local, Writes, Security}
use Rattle.write.specs.declared.fault.WriteFault.{WriteFault}
use Rattle.write.specs.declared.fault.WriteFault.TheVariants as write
use Rattle.auth.specs.Callers.{Configuration}
use Rattle.couch_http.specs.Message.{Message}
use Rattle.couch_http.specs.Reply.{Reply}
use Rattle.std.proofs.lemmas.Bool.Decides.{nat_tests}
use Rattle.node.proofs.Steps.{answer_served}
use Rattle.node.specs.Step.{IsStep}
use Rattle.node.specs.Answer.{Change, answer, creation, inside, kept, removal, with_change}
use Rattle.node.specs.inner.Drafts.{change_inside}
use Rattle.node.specs.Causes.{Ends, EndsBefore, HasCause, IsFailure, LacksNumbers, stop_of_change}
use Rattle.node.specs.Work.{appended, local_put, nothing, secured}
use Rattle.api.specs.declared.refusal.Refusal.{Refusal}
use Rattle.node.specs.declared.early_end.EarlyEnd.{EarlyEnd}
use Rattle.node.specs.declared.early_end.EarlyEnd.TheVariants.{Refused, Failed as Broken, NoRoom}

-- changes for which there is no room in a database that is there
room_lacking : {S : Type 0} (g : Ghosts S) (s : S) (name : List ℕ) (changes : Changes) (o : Option Database)
    → IsThereWith o (λ d. LacksRoomFor (g.lacks_room s) name changes d) → LacksNumbers g s (change_inside name changes o)
room_lacking g s name changes None h = absurd h
room_lacking g s name (Security v) (Some db) h = absurd h
room_lacking g s name (Local id document) (Some db) h = absurd h
room_lacking g s name (Writes ws) (Some db) h = h

-- a change that is not made, though there is a database, is not made for want of memory or has a cause
pub change_ends : {S : Type 0} (g : Ghosts S) (old new : S) (name : List ℕ) (changes : Changes) (fault : WriteFault)
    → (g.is_honest new → is_some (get (g.contents old) name) ≡ true)
    → IsOfStoreOrMemory fault
    → Refuses g old new (get (g.contents old) name ≡ None) (g.is_honest new → IsThereWith (get (g.contents old) name) (λ d. LacksRoomFor (g.lacks_room old) name changes d)) fault
    → EndsBefore g old new (change_inside name changes (get (g.contents old) name)) (stop_of_change fault)
change_ends g old new name changes (write.Store Memory) there only h = absurd h
change_ends g old new name changes (write.Store NoDatabase) there only h = λ honest. absurd (let none = h honest in let some = there honest in cc)
change_ends g old new name changes (write.Store Exists) there only h = absurd h
change_ends g old new name changes (write.Store Failed) there only h = λ honest. inl h
change_ends g old new name changes (write.Store Damaged) there only h = λ honest. absurd (h honest)
change_ends g old new name changes (write.Store Full) there only h = λ honest. inr (room_lacking g old name changes (get (g.contents old) name) (h honest))
change_ends g old new name changes write.BadDocument there only h = absurd (only (λ e. cc) (λ cause e. cc))
change_ends g old new name changes (write.Denied rule) there only h = absurd (only (λ e. cc) (λ cause e. cc))
change_ends g old new name changes write.BadHistory there only h = absurd (only (λ e. cc) (λ cause e. cc))
change_ends g old new name changes write.Conflict there only h = absurd (only (λ e. cc) (λ cause e. cc))
change_ends g old new name changes write.Generation there only h = absurd (only (λ e. cc) (λ cause e. cc))
change_ends g old new name changes write.Memory there only h = tt

pub unrefused_change : (fault : WriteFault) (refusal : Refusal) → stop_of_change fault ≢ Refused refusal
unrefused_change (write.Store cause) refusal e = cc
unrefused_change write.BadDocument refusal e = cc
unrefused_change (write.Denied rule) refusal e = cc
unrefused_change write.BadHistory refusal e = cc
unrefused_change write.Conflict refusal e = cc
unrefused_change write.Generation refusal e = cc
unrefused_change write.Memory refusal e = cc

-- planned changes that are made are those that the definition says
pub change_made : (databases after : Contents) (name : List ℕ) (changes : Changes) (o : Option Database) → get databases name ≡ o
    → option_map (λ d. insert databases name (database_after changes d)) o ≡ Some after → after ≡ with_change (change_inside name changes o) databases
change_made databases after name changes None is h = absurd cc
change_made databases after name (Writes ws) (Some db) is h = let e : after ≡ insert databases name (with_all db (writings_in db (additions ws.items))) = cc in rw is e
change_made databases after name (Local id document) (Some db) is h = let e : after ≡ insert databases name (database_after (Local id document) db) = cc in rw is e
change_made databases after name (Security v) (Some db) is h = let e : after ≡ insert databases name (database_after (Security v) db) = cc in rw is e

-- ---- after calls that only read

failed_from : (old mid new : ℕ) → old ≤ mid → HasFailed mid new → HasFailed old new
failed_from old mid new before (inl rose) = inl (omega (arith, before, rose))
failed_from old mid new before (inr full) = inr full

pub ends_from : {S : Type 0} (g : Ghosts S) (a b c : S) (stop : EarlyEnd) → OnlyReads g a b → Ends g b c stop → Ends g a c stop
ends_from g a b c (Broken fault) reads h = λ honest. failed_from _ _ _ reads.goes_on.counted (h honest)
ends_from g a b c (Refused refusal) reads h = tt
ends_from g a b c NoRoom reads h = tt

lacking_from : {S : Type 0} (g : Ghosts S) (a b : S) (change : Change) → OnlyReads g a b → g.is_honest b → LacksNumbers g b change → LacksNumbers g a change
lacking_from g a b kept reads honest h = absurd h
lacking_from g a b (creation name) reads honest h = reads.numbers honest h
lacking_from g a b (removal name) reads honest h = absurd h
lacking_from g a b (inside name nothing) reads honest h = absurd h
lacking_from g a b (inside name (appended ws)) reads honest h = reads.room honest name ws h
lacking_from g a b (inside name (secured security)) reads honest h = absurd h
lacking_from g a b (inside name (local_put id document)) reads honest h = absurd h

cause_from : {S : Type 0} (g : Ghosts S) (a b c : S) (change : Change) → OnlyReads g a b → g.is_honest b → HasCause g b c change → HasCause g a c change
cause_from g a b c change reads honest (inl failed) = inl (failed_from _ _ _ reads.goes_on.counted failed)
cause_from g a b c change reads honest (inr lacking) = inr (lacking_from g a b change reads honest lacking)

-- the change that was to be made may be told by either state
ends_before_from : {S : Type 0} (g : Ghosts S) (a b c : S) (change whole : Change) (stop : EarlyEnd) → OnlyReads g a b → (g.is_honest c → g.is_honest b) → (g.is_honest c → change ≡ whole)
    → EndsBefore g b c change stop → EndsBefore g a c whole stop
ends_before_from g a b c change whole (Broken fault) reads onward same h = λ honest. subst (λ (x : Change). HasCause g a c x) (same honest) (cause_from g a b c change reads (onward honest) (h honest))
ends_before_from g a b c change whole (Refused refusal) reads onward same h = tt
ends_before_from g a b c change whole NoRoom reads onward same h = tt

-- the same of whatever the later call answers
pub all_end_before : {S A : Type 0} (g : Ghosts S) (a b c : S) (change whole : Change) (r : Result A EarlyEnd) → OnlyReads g a b → (g.is_honest c → g.is_honest b) → (g.is_honest c → change ≡ whole)
    → IfErr r (EndsBefore g b c change) → IfErr r (EndsBefore g a c whole)
all_end_before g a b c change whole (Ok v) reads onward same h = h
all_end_before g a b c change whole (Err stop) reads onward same h = ends_before_from g a b c change whole stop reads onward same h

-- ---- a reply of 500

-- the count of faults rose or has reached its greatest value, or it did not
failed_or_not : (old new : ℕ) → HasFailed old new ⊎ ¬ (HasFailed old new)
failed_or_not old new = by (nat_lt old new) refl (nat_eq new (2 ^ 64 - 1)) refl
  where
    by : (b : Bool) → nat_lt old new ≡ b → (c : Bool) → nat_eq new (2 ^ 64 - 1) ≡ c → HasFailed old new ⊎ ¬ (HasFailed old new)
    by true is c end = inl (inl (grind (arith, nat_tests)))
    by false is true end = inl (inr (grind (arith, nat_tests)))
    by false is false end = inr (λ failed. elim failed [ inl rose ↦ grind (arith, nat_tests) | inr full ↦ grind (arith, nat_tests) ])

-- a step whose reply is 500 has a cause, whether the store is honest or not
pub failure : {S : Type 0} (g : Ghosts S) (old new : S) (c : Configuration) (m : Message) (reply : Reply)
    → (g.is_honest new → IsStep c (g.contents old) m (HasCause g old new) reply (g.contents new)) → reply.status ≡ 500
    → IsFailure g old new (answer c (g.contents old) m).change
failure g old new c m reply step is = elim (failed_or_not (g.fault_count old) (g.fault_count new)) [
  | inl failed ↦ inl failed
  | inr not ↦ inr (λ honest. elim (step honest) [
    | inl done ↦ absurd ((answer_served c (g.contents old) m).0 (sym (ap (λ (r : Reply). r.status) done.0) ∙ is))
    | inr (inl lacking) ↦ absurd (let other : reply.status ≡ 503 = ap (λ (r : Reply). r.status) lacking.0 in omega (arith, other, is))
    | inr (inr (told, same, inl failed)) ↦ absurd (not failed)
    | inr (inr (told, same, inr lacks)) ↦ lacks
  ])
]
