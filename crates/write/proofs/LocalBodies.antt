-- A local document that is written has a number and a body.
use Rattle.std.proofs.Common.{◌≡◌, ◌≤◌, ◌<◌, ◌+◌, ℕ, IsTrue, Bool, true, false, cond, List, Option, Some, None, option_map, Result, Ok, Err, refl, subst, nat_lt, arith, ltb-true}
use Rattle.couch_json.specs.Value.{Value, null, truth, whole, text, array, object}
use Rattle.store.specs.Lawful.{IsBody, IsLocalDocument}
use Rattle.store.specs.declared.local_document.LocalDocument.{LocalDocument}
use Rattle.tree.specs.DocumentId.{is_local_id}
use Rattle.tree.specs.Revision.{greatest_number}
use Rattle.write.specs.Admission.{given}
use Rattle.write.specs.Document.{are_allowed, without_special}
use Rattle.write.specs.LocalWrites.{is_local_member, local_body, local_outcome, local_rev, names_stored, next_number}
use Rattle.write.specs.declared.fault.WriteFault.{WriteFault}
use Rattle.write.specs.declared.fault.WriteFault.TheVariants.{BadDocument, Conflict, Generation}
use Rattle.write.proofs.Bodies.{body_if-Some, without_plain}

pub local_body-Some : (document body : Value) → local_body document ≡ Some body → IsBody body
local_body-Some (object ms) body h = body_if-Some (are_allowed is_local_member ms) (object (without_special ms)) body refl (without_plain ms) h
local_body-Some null body h = absurd cc
local_body-Some (truth b) body h = absurd cc
local_body-Some (whole n) body h = absurd cc
local_body-Some (text s) body h = absurd cc
local_body-Some (array vs) body h = absurd cc

abbrev well : LocalDocument → Result LocalDocument WriteFault
well d = Ok d

same : (a b : LocalDocument) → well a ≡ well b → a ≡ b
same a b e = cc

-- numbers begin at 1, and the greatest is the last
pub number_is_lawful : (stored : Option LocalDocument) (n : ℕ) → next_number stored ≡ Some n → (1 ≤ n) × (n ≤ greatest_number)
number_is_lawful None n is = let same : n ≡ 1 = cc in (omega (arith, same), omega (arith, same))
number_is_lawful (Some d) n is = by (nat_lt d.number greatest_number) refl is
  where
    by : (b : Bool) → nat_lt d.number greatest_number ≡ b → cond b (Some (d.number + 1)) None ≡ Some n → (1 ≤ n) × (n ≤ greatest_number)
    by true below is =
        let same : n ≡ d.number + 1 = cc in
        let less : d.number < greatest_number = ltb-true d.number greatest_number below in
        (omega (arith, same), omega (arith, same, less))
    by false below is = cc

with_parts : (id : List ℕ) (number : Option ℕ) (names : Option Bool) (body : Option Value) (d : LocalDocument) → IsTrue (is_local_id id)
    → ((n : ℕ) → number ≡ Some n → (1 ≤ n) × (n ≤ greatest_number)) → ((b : Value) → body ≡ Some b → IsBody b)
    → given BadDocument names (λ n. given BadDocument body (λ b. cond n (given Generation number (λ k. well (record { number = k; body = b }))) (Err Conflict))) ≡ Ok d → IsLocalDocument id d
with_parts id number None body d local numbers are_bodies h = absurd cc
with_parts id number (Some names) None d local numbers are_bodies h = absurd cc
with_parts id number (Some false) (Some b) d local numbers are_bodies h = absurd cc
with_parts id None (Some true) (Some b) d local numbers are_bodies h = absurd cc
with_parts id (Some n) (Some true) (Some b) d local numbers are_bodies h =
    let number = numbers n refl in
    subst (IsLocalDocument id) (same (record { number = n; body = b }) d h) (record { named = local; first = number.0; last = number.1; body = are_bodies b refl })

pub local_is_lawful : (stored : Option LocalDocument) (id : List ℕ) (document : Value) (d : LocalDocument) → IsTrue (is_local_id id) → local_outcome stored id document ≡ Ok d → IsLocalDocument id d
local_is_lawful stored id document d local h =
    with_parts id (next_number stored) (option_map (λ rev. names_stored stored rev) (local_rev id document)) (local_body document) d local (number_is_lawful stored) (λ b e. local_body-Some document b e) h
