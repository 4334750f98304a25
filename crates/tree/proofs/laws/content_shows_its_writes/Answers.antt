use Rattle.tree.proofs.Shown.{shown}
use Rattle.tree.proofs.LawfulContents.{only_content}
use Rattle.tree.proofs.laws.content_shows_its_writes.Goals as goal

pub returns-clause-shows : goal.returns-clause-shows
returns-clause-shows c = shown

pub returns-clause-only : goal.returns-clause-only
returns-clause-only c = only_content
