-- Contents are told apart by numbers, so any two proofs that they are equal are one.
use Rattle.sqlstore.proofs.Common.{Coded, Coded-set, Contents, Document, FoundValues, HistoryContent, List, LocalDocument, Option, TextMap, code, code_by, coded_list, coded_option, coded_ℕ, coded_ℤ, coded×, content_code, refl, ℕ, ℤ}
use Rattle.couch_json.specs.Code.{value_code}
use Rattle.couch_json.specs.Value as json
use Rattle.store.specs.Database.{Database}
use Rattle.store.specs.contracts.local_document.LocalDocument as local

text_code : Coded (List ℕ)
text_code = coded_list coded_ℕ

document_code : Coded Document
document_code = code_by (ℕ × HistoryContent) (coded× coded_ℕ content_code) (λ d. (d.sequence, d.history)) (λ p. record { sequence = p.0; history = p.1 }) (λ _. refl)

database_code : Coded Database
database_code =
    code_by (ℕ × (json.Value × (TextMap LocalDocument × TextMap Document)))
    (coded× coded_ℕ (coded× value_code (coded× (code text_code local.the_row.coded) (code text_code document_code))))
    (λ d. (d.length, (d.security, (d.locals, d.documents)))) (λ p. record { length = p.0; security = p.1.0; locals = p.1.1.0; documents = p.1.1.1 }) (λ _. refl)

pub contents_set : IsSet Contents
contents_set = Coded-set (code text_code database_code)

pub some_contents_set : IsSet (Option Contents)
some_contents_set = Coded-set (coded_option (code text_code database_code))

found_code : Coded FoundValues
found_code = code_by (ℤ × (json.Value × ℕ)) (coded× coded_ℤ (coded× value_code coded_ℕ)) (λ v. (v.0, (v.1, v.2))) (λ p. (p.0, p.1.0, p.1.1)) (λ _. refl)

pub found_set : IsSet (Option FoundValues)
found_set = Coded-set (coded_option found_code)
