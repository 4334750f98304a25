-- Which page of the server a path leads to.
-- CouchDB manual, api/server/common, api/database, api/document/common and api/local, for the paths; which of two routes a path takes is what matchit's own definition says.
use Rattle.std.specs.Prelude.{◌≡◌, ℕ, Bool, true, false, List, [], ◌∷◌, Option, Some, None, option_map, Result, Ok, Err, codes, nat_eq, ⊤}
use Rattle.std.specs.List.{list_any, starts_with}
use Rattle.matchit.specs.Conflict.{conflicts}
use Rattle.matchit.specs.Order.{placed}
use Rattle.matchit.specs.Rows.{RowsOf}
use Rattle.matchit.specs.Route.{Scan, parse_route}
use Rattle.matchit.specs.Router.{RouteOf, route_from}
use Rattle.matchit.specs.Seek.{first}
use Rattle.matchit.specs.declared.error.InsertError.{InsertError}
use Rattle.percent_encoding.specs.Percent.{percent_decode}
use Rattle.api.specs.Paths.{part_at}
use Rattle.api.specs.declared.page.Page.{Page}
use Rattle.api.specs.declared.page.Page.TheVariants.{Welcome, AllDatabases, Database, Security, BulkDocuments, AllDocuments, Changes, Differences, Find, Index, View, Document, LocalDocument}

-- the routes of the server, each with its page
abbrev pub routes : List (List ℕ × Page)
routes =
    (codes "/", Welcome)
    ∷ (codes "/_all_dbs", AllDatabases)
    ∷ (codes "/{db}", Database)
    ∷ (codes "/{db}/", Database)
    ∷ (codes "/{db}/_security", Security)
    ∷ (codes "/{db}/_bulk_docs", BulkDocuments)
    ∷ (codes "/{db}/_all_docs", AllDocuments)
    ∷ (codes "/{db}/_changes", Changes)
    ∷ (codes "/{db}/_revs_diff", Differences)
    ∷ (codes "/{db}/_find", Find)
    ∷ (codes "/{db}/_index", Index)
    ∷ (codes "/{db}/_design/{name}/_view/{index}", View)
    ∷ (codes "/{db}/_design/{name}", Document)
    ∷ (codes "/{db}/_local/{name}", LocalDocument)
    ∷ (codes "/{db}/{id}", Document)
    ∷ []

-- patterns of paths, each with its page
abbrev pub Table : Type 0
Table = RowsOf (RouteOf Page)

-- a table with a route, where its pattern could be read
abbrev pub with_read : Result Scan InsertError → Page → Table → Table
with_read (Ok s) page rows = placed (s.pattern, route_from s page) rows
with_read (Err e) page rows = rows

-- matchit's table with one route more
abbrev pub with_route : List ℕ × Page → Table → Table
with_route route rows = with_read (parse_route route.0) route.1 rows

-- a table with more routes
abbrev pub with_routes : List (List ℕ × Page) → Table → Table
with_routes [] rows = rows
with_routes (route ∷ rest) rows = with_routes rest (with_route route rows)

-- the pages by their paths
unfoldable pub table : Table
table = with_routes routes []

-- ---- that matchit takes each route

-- one of the table conflicts with the pattern
abbrev pub is_in_conflict : List ℕ → Table → Bool
is_in_conflict pattern rows = list_any (λ row. conflicts pattern row.0) rows

-- what is read of a text is a route, and none of the table conflicts with it
abbrev pub Fits : Result Scan InsertError → Table → Type 0
Fits (Ok s) rows = is_in_conflict s.pattern rows ≡ false
Fits (Err e) rows = ⊥

-- each of these routes fits into the table, once those before it are there
abbrev pub AreApart : List (List ℕ × Page) → Table → Type 0
AreApart [] rows = ⊤
AreApart (route ∷ rest) rows = Fits (parse_route route.0) rows × AreApart rest (with_route route rows)

-- ---- pages

-- the part stands for the id of a local document, or for one that only begins so
abbrev pub begins_local : Option (List ℕ) → Bool
begins_local None = false
begins_local (Some part) = starts_with nat_eq (percent_decode part) (codes "_local/")

-- the page of a document is that of a local one where the document's id begins so
abbrev pub document_page : Bool → Page
document_page true = LocalDocument
document_page false = Document

-- the page of a path; of a local document, its own
abbrev pub page_by : List ℕ → Page → Page
page_by path Document = document_page (begins_local (part_at 2 path))
page_by path page = page

-- the page that a path leads to
abbrev pub page_of : List ℕ → Option Page
page_of path = option_map (λ route. page_by path route.value) (first table path)
