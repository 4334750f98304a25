use Rattle.std.proofs.Common.{codes, rules, eqb}
use Rattle.std.proofs.lemmas.Iterator.Search.{any_from_yields_List}
use Rattle.std.proofs.lemmas.Iterator.Splits.{YieldsList-from_slice_split}
use Rattle.httparse.specs.Grammar.{trim_ows}
use Rattle.couch_http.specs.Fields.{same_name}
use Rattle.couch_http.proofs.fields.lists_close.Goals as goal

pub returns : goal.returns
returns c =
    any_from_yields_List (λ part. same_name (trim_ows part) (codes "close")) _ _ _ c.any.ensures.ran
    (YieldsList-from_slice_split _ (λ b. eqb b 44) c.args.value.now c.split.ensures.rest c.split.ensures.done c.split.ensures.closure (λ x b q h. search rules))
    (λ x b q h. search rules)
