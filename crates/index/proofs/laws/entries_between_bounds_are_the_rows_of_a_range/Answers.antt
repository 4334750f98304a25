use Rattle.index.proofs.Common.{pos}
use Rattle.index.proofs.PagePlaces.{entries_read, within_counted}
use Rattle.index.proofs.laws.entries_between_bounds_are_the_rows_of_a_range.Goals as goal

pub returns-clause-read : goal.returns-clause-read
returns-clause-read c n places rows h range low high lows highs most skip read lawful is = entries_read n places rows h range low high lows highs (pos most) skip read lawful is

pub returns-clause-count : goal.returns-clause-count
returns-clause-count c n places rows h range low high lows highs = within_counted n places rows h range low high lows highs
