use Rattle.sqlstore.proofs.listed_ranks.put_index.Goals as goal

pub returns : goal.returns
returns c trees db are is = c.push_index.ensures trees db (c.forget_first-all.ensures trees db (c.ranks_or_none.ensures trees db are)) is
