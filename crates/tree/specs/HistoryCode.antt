-- A code for the content of a history: it tells any two of them apart, so that a type of the program may stand for one.
-- No outside source decides.
use Rattle.std.specs.Prelude.{Bool, Option, refl}
use Rattle.std.specs.Coded.{Coded, code_by, coded×, coded_bool, coded_option}
use Rattle.std.specs.FinMap as map
use Rattle.couch_json.specs.Value.{Value}
use Rattle.couch_json.specs.Code.{value_code}
use Rattle.tree.specs.Revision.{Revision, revision_code}
use Rattle.tree.specs.History.{HistoryContent}
use Rattle.tree.specs.declared.entry.Held.{Held}
use Rattle.tree.specs.declared.entry.Entry.{Entry}

abbrev pub held_code : Coded Held
held_code = code_by (Bool × Value) (coded× coded_bool value_code) (λ d. (d.deleted, d.body)) (λ p. record { deleted = p.0; body = p.1 }) (λ _. refl)

abbrev pub entry_code : Coded Entry
entry_code = code_by (Option Revision × Option Held) (coded× (coded_option revision_code) (coded_option held_code)) (λ e. (e.parent, e.held)) (λ p. record { parent = p.0; held = p.1 }) (λ _. refl)

abbrev pub content_code : Coded HistoryContent
content_code = map.code revision_code entry_code
