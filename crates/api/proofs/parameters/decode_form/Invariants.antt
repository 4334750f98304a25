use Rattle.std.proofs.Common.{◌≡◌, ◌++◌, map}
use Rattle.form_urlencoded.specs.Form.{raw_pairs}
use Rattle.form_urlencoded.specs.Parse.{owned_pairs_left}
use Rattle.api.specs.Queried.{texts_of}
use Rattle.api.specs.Queries.{parameter_of}
use Rattle.api.proofs.parameters.decode_form.Given as goal

abbrev pub invariant-loop-pair : goal.invariant-loop-pair
invariant-loop-pair l =
    texts_of l.parameters.items ++ map parameter_of (owned_pairs_left l.pair-iterator) ≡ map parameter_of (raw_pairs l.form)
