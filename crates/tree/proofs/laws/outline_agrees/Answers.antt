use Rattle.tree.proofs.Outlines.{chain_in, get_outline, leaves_in, outline_of_rows, placement_in, winner_in}
use Rattle.tree.proofs.laws.outline_agrees.Goals as goal

pub returns-clause-revisions : goal.returns-clause-revisions
returns-clause-revisions c = get_outline

pub returns-clause-leaves : goal.returns-clause-leaves
returns-clause-leaves c = leaves_in

pub returns-clause-winner : goal.returns-clause-winner
returns-clause-winner c = winner_in

pub returns-clause-chain : goal.returns-clause-chain
returns-clause-chain c = chain_in

pub returns-clause-placement : goal.returns-clause-placement
returns-clause-placement c = placement_in

pub returns-clause-rows : goal.returns-clause-rows
returns-clause-rows c = outline_of_rows
