use Rattle.std.proofs.Common.{nat_cmp, ap, ◌∙◌}
use Rattle.std.specs.Cmp.Lexicographic.{slice_cmp}
use Rattle.std.specs.FinMap.{put}
use Rattle.store.specs.Writing.{addition_of}
use Rattle.store.proofs.PageStructs.{written_new, written_there}
use Rattle.store.proofs.plain_sequence_pages.take_in.Goals as goal

pub returns-in_ok-write_to-in-Some : goal.returns-in_ok-write_to-in-Some
returns-in_ok-write_to-in-Some c =
    record {
      ok = written_there c.args.sequence (addition_of c.args.write.now) c.args.documents.now.entries _ c.in-Some.document.now c.write_to.new.document c.get_mut.ensures.ordered
          c.in-Some.ensures.value (c.get_mut.follows.holds c.write_to.new.document).0 c.in_ok-write_to-in-Some.ensures.ok;
    }

pub returns-in_ok-put_sorted-in-None : goal.returns-in_ok-put_sorted-in-None
returns-in_ok-put_sorted-in-None c =
    let es = c.args.documents.now.entries in
    let d = c.in_ok-document-in-None.document in
    record {
      ok = written_new c.args.sequence (addition_of c.args.write.now) es _ d c.get_mut.ensures.ordered c.in-None.ensures.value
          (c.in_ok-put_sorted-in-None.ensures.ok ∙ (λ i. put (slice_cmp nat_cmp) c.in_ok-id-in-None.id d (c.get_mut.follows.holds-at-none i).entries) ∙ ap (λ id. put (slice_cmp nat_cmp) id d es) c.in_ok-id-in-None.ensures) c.in_ok-document-in-None.ensures;
    }
