use Rattle.std.proofs.Common.{rules, ◌∙◌, sym}
use Rattle.tree.proofs.Revisions.{same}
use Rattle.write.proofs.WinnerLeaves.{named_winner, no_named}
use Rattle.write.proofs.following.follow_named.Goals as goal

pub returns-in-None : goal.returns-in-None
returns-in-None c h is = no_named h c.args.rev (sym c.in-None.is ∙ is)

pub returns-then-is_eq : goal.returns-then-is_eq
returns-then-is_eq c h is = named_winner h c.in-Some.winner c.args.rev (sym c.in-Some.is ∙ is) (same c.in-Some.winner.rev c.args.rev (search rules))
