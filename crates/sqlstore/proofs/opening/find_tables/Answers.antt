use Rattle.sqlstore.proofs.Common.{ap, has_all, refl, sym, ◌∙◌}
use Rattle.std.proofs.lemmas.Bool.{both_ways}
use Rattle.tables.proofs.Laid.{ours_has_all}
use Rattle.sqlstore.proofs.opening.find_tables.Goals as goal

pub returns-in-Part-clause-not_ours : goal.returns-in-Part-clause-not_ours
returns-in-Part-clause-not_ours g c is clean store = both_ways (has_all c.schema.result.now) (c.in-Part.ensures.part.0 refl).1 (ap has_all (c.schema.ensures.value ∙ store.schema_is) ∙ ours_has_all)

pub returns-in-Nothing-clause-found : goal.returns-in-Nothing-clause-found
returns-in-Nothing-clause-found g c clean store = absurd (let told = sym c.in-Nothing.is ∙ c.tables_in.ensures.all.1 (ap has_all (c.schema.ensures.value ∙ store.schema_is) ∙ ours_has_all) in cc)

pub returns-in-Others-clause-found : goal.returns-in-Others-clause-found
returns-in-Others-clause-found g c clean store = absurd (let told = sym c.in-Others.is ∙ c.tables_in.ensures.all.1 (ap has_all (c.schema.ensures.value ∙ store.schema_is) ∙ ours_has_all) in cc)

pub returns-in-Others-clause-version : goal.returns-in-Others-clause-version
returns-in-Others-clause-version g c clean ours = absurd (let told = sym c.in-Others.is ∙ c.tables_in.ensures.all.1 (ap has_all (c.schema.ensures.value ∙ ours) ∙ ours_has_all) in cc)

pub returns-in-Part-clause-not_first : goal.returns-in-Part-clause-not_first
returns-in-Part-clause-not_first g c is clean store = both_ways (has_all c.schema.result.now) (c.in-Part.ensures.part.0 refl).1 (ap has_all (c.schema.ensures.value ∙ store.schema_is) ∙ ours_has_all)

pub returns-in-Nothing-clause-carried : goal.returns-in-Nothing-clause-carried
returns-in-Nothing-clause-carried g c clean store = absurd (let told = sym c.in-Nothing.is ∙ c.tables_in.ensures.all.1 (ap has_all (c.schema.ensures.value ∙ store.schema_is) ∙ ours_has_all) in cc)

pub returns-in-Others-clause-carried : goal.returns-in-Others-clause-carried
returns-in-Others-clause-carried g c clean store = absurd (let told = sym c.in-Others.is ∙ c.tables_in.ensures.all.1 (ap has_all (c.schema.ensures.value ∙ store.schema_is) ∙ ours_has_all) in cc)

pub returns-in-Others-clause-failed : goal.returns-in-Others-clause-failed
returns-in-Others-clause-failed g c clean ours other = absurd (let told = sym c.in-Others.is ∙ c.tables_in.ensures.all.1 (ap has_all (c.schema.ensures.value ∙ ours) ∙ ours_has_all) in cc)
