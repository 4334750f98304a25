use Rattle.transactions.proofs.Common.{None, Some, addition_of, ap, slice_get, string_bytes, sym, ◌∙◌, ◌≡◌}
use Rattle.std.specs.Prelude.{option_copied}
use Rattle.transactions.proofs.FirstWrites.{first_best, no_first}
use Rattle.transactions.proofs.document_write.find_newest.Goals as goal

pub returns-clause-ok : goal.returns-clause-ok
returns-clause-ok c place =
    let first : slice_get c.args.write.now.path.items 0 ≡ Some c.in-Some.rev.now =
    ap (λ xs. slice_get xs 0) (sym c.deref.ensures.value) ∙ sym c.first.ensures.value ∙ ap option_copied c.in-Some.is in
    first_best (addition_of c.args.write.now) (string_bytes c.in_ok-text.field-0) c.in-Some.rev.now first c.in_ok-text.ensures place

pub returns-in_default-clause-err : goal.returns-in_default-clause-err
returns-in_default-clause-err c =
    let none : slice_get c.args.write.now.path.items 0 ≡ None =
    ap (λ xs. slice_get xs 0) (sym c.deref.ensures.value) ∙ sym c.first.ensures.value ∙ ap option_copied c.in_default.is in
    no_first (addition_of c.args.write.now) none
