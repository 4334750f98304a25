use Rattle.tables.proofs.Lemmas.{shown_databases, shown_hashes, shown_locals, shown_outlines, shown_revisions}
use Rattle.tables.proofs.laws.rows_of_a_store.Goals as goal

pub returns-clause-databases : goal.returns-clause-databases
returns-clause-databases c = shown_databases

pub returns-clause-revisions : goal.returns-clause-revisions
returns-clause-revisions c = shown_revisions

pub returns-clause-locals : goal.returns-clause-locals
returns-clause-locals c = shown_locals

pub returns-clause-outlines : goal.returns-clause-outlines
returns-clause-outlines c = shown_outlines

pub returns-clause-hashes : goal.returns-clause-hashes
returns-clause-hashes c = shown_hashes
