use Rattle.file_check.proofs.FoundRows.{index_told}
use Rattle.file_check.proofs.indexes.found.find_index.Goals as goal

pub returns : goal.returns
returns g c =
    index_told g.S.Store _ _ _ c.find_decl.result c.tell_found.result c.find_decl.ensures.ok c.find_decl.ensures.err c.find_decl.ensures.stands c.find_decl.ensures.looks c.find_decl.ensures.asks c.tell_found.ensures
