-- A GET with parameters that are neither a listing's nor a view's reads the changes or a document.
use Rattle.std.proofs.Common.{◌≡◌, ◌⊎◌, inl, inr, false, Some, None, Ok}
use Rattle.auth.specs.Callers as auth
use Rattle.couch_http.specs.Message.{Message}
use Rattle.couch_json.specs.Value.{Value}
use Rattle.store.specs.Contents.{Contents}
use Rattle.store.specs.Database.{Database}
use Rattle.read.specs.Information.{information}
use Rattle.read.specs.Listing.{document_listing}
use Rattle.read.specs.Local.{local_document}
use Rattle.read.specs.Views.{view_listing}
use Rattle.api.specs.Asking.{lacks_parameters, plain}
use Rattle.api.specs.Listings.{listing_query}
use Rattle.api.specs.Paths.{document_id_in, index_name_in_path, local_id_in}
use Rattle.api.specs.Refusals.{and_then, there_or}
use Rattle.api.specs.Views.{view_query}
use Rattle.api.specs.declared.method.RequestMethod.TheVariants.{Get}
use Rattle.api.specs.declared.page.Page.{Page}
use Rattle.api.specs.declared.page.Page.TheVariants.{Welcome, AllDatabases, Database as DatabasePage, Security, AllDocuments, Changes, View, Document, LocalDocument}
use Rattle.api.specs.declared.refusal.Refusal.TheVariants.{Id, Method, Query}
use Rattle.node.specs.Answer.{Outcome, Task, administration, listed, task_of, task_outcome, told, welcome}
use Rattle.node.specs.Works.{change_list, database_read, document_list, document_read, local_read, refusal_of_read, security_read, view_read}
use Rattle.passes.proofs.Judged.{WasRead, never, next_never, plain_never, read_never, read_out, there_never}

-- there are parameters, and they are neither a listing's nor a view's
pub record HasOwnParameters (m : Message) : Type 0 where
  pub some : lacks_parameters m.query ≡ false
  pub listing : listing_query m.query ≡ None
  pub view : view_query m.query ≡ None

no_view : (m : Message) → HasOwnParameters m → (db : Database) (v : Value) → view_read m db ≡ Ok v → ⊥
no_view m own db v e =
    next_never (there_or Id (document_id_in m.path))
    (λ design. and_then (there_or Id (index_name_in_path m.path)) (λ index. and_then (there_or Query (view_query m.query)) (λ keys. refusal_of_read (view_listing keys design index db)))) v
    (λ design k. next_never (there_or Id (index_name_in_path m.path)) (λ index. and_then (there_or Query (view_query m.query)) (λ keys. refusal_of_read (view_listing keys design index db))) v
    (λ index l. there_never Query (view_query m.query) (λ keys. refusal_of_read (view_listing keys design index db)) v own.view l) k) e

no_local : (m : Message) → HasOwnParameters m → (db : Database) (v : Value) → local_read m db ≡ Ok v → ⊥
no_local m own db v e =
    next_never (there_or Id (local_id_in m.path)) (λ id. and_then (plain m) (λ _. refusal_of_read (local_document id db))) v
    (λ id k. plain_never m (λ _. refusal_of_read (local_document id db)) v own.some k) e

-- it reads the changes or a document
pub changes_or_document : (page : Page) (caller : auth.Identity) (a : Contents) (m : Message) (task : Task) (o : Outcome) → HasOwnParameters m
    → task_of page (Some Get) caller m ≡ Ok task → task_outcome caller a task ≡ Ok o → WasRead a m (λ name. change_list m) o ⊎ WasRead a m (λ name. document_read m) o
changes_or_document Welcome caller a m task o own e f = absurd (plain_never m (λ _. Ok (told welcome)) task own.some e)
changes_or_document AllDatabases caller a m task o own e f =
    absurd (next_never (administration caller) (λ _. and_then (plain m) (λ _. Ok listed)) task (λ u k. plain_never m (λ _. Ok listed) task own.some k) e)
changes_or_document DatabasePage caller a m task o own e f =
    absurd (read_never caller a m (λ name. database_read m name) task o (λ name db v k. plain_never m (λ _. Ok (information name db)) v own.some k) e f)
changes_or_document Security caller a m task o own e f =
    absurd (read_never caller a m (λ name. security_read m) task o (λ name db v k. plain_never m (λ _. Ok db.security) v own.some k) e f)
changes_or_document AllDocuments caller a m task o own e f =
    absurd (read_never caller a m (λ name. document_list m) task o
    (λ name db v k. there_never Query (listing_query m.query) (λ r. Ok (document_listing r db)) v own.listing k) e f)
changes_or_document Changes caller a m task o own e f = inl (read_out caller a m (λ name. change_list m) task o e f)
changes_or_document View caller a m task o own e f =
    absurd (read_never caller a m (λ name. view_read m) task o (λ name db v k. no_view m own db v k) e f)
changes_or_document Document caller a m task o own e f = inr (read_out caller a m (λ name. document_read m) task o e f)
changes_or_document LocalDocument caller a m task o own e f =
    absurd (read_never caller a m (λ name. local_read m) task o (λ name db v k. no_local m own db v k) e f)
changes_or_document page caller a m task o own e f = absurd (never Method task e)
