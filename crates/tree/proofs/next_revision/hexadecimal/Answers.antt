-- Thirty-two hexadecimal digits are a hash.
use Rattle.std.proofs.Common.{arith}
use Rattle.tree.proofs.EditText.{hash_of_bytes}
use Rattle.tree.proofs.next_revision.hexadecimal.Goals as goal

pub returns-clause-lawful : goal.returns-clause-lawful
returns-clause-lawful c =
    let written = rw c.unwrap.ensures at c.encode_to_slice.ensures.written in
    rw written (hash_of_bytes c.args.bytes.now c.requires (λ i. omega (arith, c.type_inv.bytes i)))
