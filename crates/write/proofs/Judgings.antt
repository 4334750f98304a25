-- Documents that are judged one after another: what is seen, written and told after each.
use Rattle.std.proofs.Common.{◌≡◌, ◌≢◌, ℕ, Bool, true, false, List, [], ◌∷◌, ◌++◌, Option, Some, None, option_map, Result, Ok, Err, IfOk, IfErr, OnErr, refl, ap, sym, ◌∙◌, subst, append_assoc, append-nil}
use Rattle.std.specs.Prelude.{codes, is_some, string_bytes}
use Rattle.std.specs.BTreeMap.{BTreeMap, get}
use Rattle.std.specs.Option.{option_to_list}
use Rattle.std.specs.Ordering.{nat_cmp}
use Rattle.std.specs.Cmp.Lexicographic.{slice_cmp}
use Rattle.std.proofs.lemmas.List.{map-append}
use Rattle.couch_json.specs.Value.{Value}
use Rattle.tree.specs.History.{HistoryContent}
use Rattle.store.specs.Database.{Database, DocumentWrite, history_at, with_all}
use Rattle.store.specs.Writing.{Addition, addition_of, additions, written_in, writings_in}
use Rattle.store.specs.declared.write.Write.{Write}
use Rattle.store.proofs.Contents.{with_all-append, writings_in-append}
use Rattle.write.specs.Admission.{history_with}
use Rattle.write.specs.Bulk.{DocumentOutcome, Histories, Told, after, all_told, outcome_in, outcome_told, outcomes, put_before, result_told, writes_in}
use Rattle.write.specs.BulkResults.{AgreeAt, brought, held_or, seen_in, told_as, with_history}
use Rattle.write.specs.inner.Drafts.{outcome_asked, request_outcome}
use Rattle.write.specs.inner.Repeats.{IsKept, is_named, is_named_if_any}
use Rattle.write.specs.Document.{id_in, member_text}
use Rattle.write.specs.Terms.{Terms}
use Rattle.write.specs.declared.draft.Request.{Request}
use Rattle.write.specs.declared.fault.WriteFault.{WriteFault}
use Rattle.write.specs.declared.fault.WriteFault.TheVariants.{Memory}
use Rattle.write.specs.declared.planned.Outcome.{Outcome}
use Rattle.write.specs.declared.planning.Label.{Label}
use Rattle.write.proofs.Acceptances.{after_is, db_after}
use Rattle.write.proofs.BulkLemmas.{after_agrees, after_elsewhere, agree_at, first_named, judged_seen, kept_is_other, load_seen, named_again, named_behind, outcome_agrees, seen_after, seen_still, still_elsewhere}
use Rattle.write.proofs.Names.{request-named}

-- ---- the stored history of a document, put in

pub is_history : (d : Database) (id : List ℕ) (h : HistoryContent) (there : Option Database) → there ≡ Some d → option_map (λ db. history_at db id) there ≡ Some h → h ≡ history_at d id
is_history d id h there at is = let both : Some (history_at d id) ≡ Some h = sym (ap (option_map (λ (db : Database). history_at db id)) at) ∙ is in cc

pub stored_seen : (m n : BTreeMap (List ℕ) HistoryContent) (id : List ℕ) (d : Database) (h : HistoryContent) (there : Option Database) → there ≡ Some d
    → option_map (λ db. history_at db id) there ≡ Some h → is_some (get (slice_cmp nat_cmp) m id) ≡ false
    → ((stored : Histories) → seen_in stored n ≡ with_history (seen_in stored m) id h) → seen_in (history_at d) n ≡ seen_in (history_at d) m
stored_seen m n id d h there at is absent put =
    load_seen m n id (history_at d) absent (put (history_at d) ∙ ap (with_history (seen_in (history_at d) m) id) (is_history d id h there at is))

-- ---- a document judged by its history, which is taken out and put back

pub settle_ok : (terms : Terms) (m : BTreeMap (List ℕ) HistoryContent) (own : Option (List ℕ)) (id : List ℕ) (h : HistoryContent) (request : Request) (r : Result (Option Write) WriteFault)
    → own ≡ Some id → ((stored : Histories) → h ≡ seen_in stored m id)
    → IfOk r (λ w. request_outcome terms id h request ≡ Ok (option_map (λ x. written_in h (addition_of x)) w))
    → IfOk r (λ w. (stored : Histories) → outcome_asked terms (seen_in stored m) request own ≡ Ok (option_map (brought (seen_in stored m)) w))
settle_ok terms m own id h request (Ok w) named value became =
    λ stored. ap (outcome_asked terms (seen_in stored m) request) named ∙ judged_seen terms (seen_in stored m) id h request w (value stored) became
settle_ok terms m own id h request (Err fault) named value became = tt

-- it is put in with its write
pub taken_in_put : (m n : BTreeMap (List ℕ) HistoryContent) (id : List ℕ) (h k : HistoryContent) (r : Result (Option Write) WriteFault)
    → ((stored : Histories) → seen_in stored n ≡ with_history (seen_in stored m) id k)
    → IfOk r (λ w. k ≡ history_with h (option_map (λ x. written_in h (addition_of x)) w))
    → IfOk r (λ w. (stored : Histories) → seen_in stored n ≡ with_history (seen_in stored m) id (history_with h (option_map (λ x. written_in h (addition_of x)) w)))
taken_in_put m n id h k (Ok w) put taken_in = λ stored. put stored ∙ ap (with_history (seen_in stored m) id) taken_in
taken_in_put m n id h k (Err fault) put taken_in = tt

-- or as it was
pub unchanged_put : (m n : BTreeMap (List ℕ) HistoryContent) (id : List ℕ) (h k : HistoryContent) (r : Result (Option Write) WriteFault)
    → ((stored : Histories) → seen_in stored n ≡ with_history (seen_in stored m) id k) → OnErr r (k ≡ h)
    → IfErr r (λ fault. fault ≢ Memory → (stored : Histories) → seen_in stored n ≡ with_history (seen_in stored m) id h)
unchanged_put m n id h k (Ok w) put same = tt
unchanged_put m n id h k (Err fault) put same = λ other stored. put stored ∙ ap (with_history (seen_in stored m) id) same

-- and then it is what is seen
pub settle_kept : (terms : Terms) (again : Bool) (m mid n : BTreeMap (List ℕ) HistoryContent) (own : Option (List ℕ)) (id : List ℕ) (h : HistoryContent) (request : Request) (r : Result (Option Write) WriteFault)
    → ((stored : Histories) → h ≡ seen_in stored m id)
    → ((stored : Histories) (g : HistoryContent) → with_history (seen_in stored mid) id g ≡ with_history (seen_in stored m) id g)
    → IfOk r (λ w. request_outcome terms id h request ≡ Ok (option_map (λ x. written_in h (addition_of x)) w))
    → IfOk r (λ w. (stored : Histories) → seen_in stored n ≡ with_history (seen_in stored mid) id (history_with h (option_map (λ x. written_in h (addition_of x)) w)))
    → IfOk r (λ w. (stored : Histories) (k : List ℕ) → IsKept again own k → seen_in stored n k ≡ after (seen_in stored m) (Ok (option_map (brought (seen_in stored m)) w)) k)
settle_kept terms again m mid n own id h request (Ok w) value others became put =
    λ stored k kept. ap (λ (hs : Histories). hs k)
    (seen_after terms (seen_in stored m) (seen_in stored mid) (seen_in stored n) id h (history_with h (option_map (λ x. written_in h (addition_of x)) w)) request w (value stored) (others stored) (put stored) became refl)
settle_kept terms again m mid n own id h request (Err fault) value others became put = tt

-- the history is dropped
pub settle_dropped : (terms : Terms) (again : Bool) (m mid : BTreeMap (List ℕ) HistoryContent) (own : Option (List ℕ)) (id : List ℕ) (h : HistoryContent) (request : Request) (r : Result (Option Write) WriteFault)
    → own ≡ Some id → again ≡ false
    → ((stored : Histories) (g : HistoryContent) → with_history (seen_in stored mid) id g ≡ with_history (seen_in stored m) id g)
    → IfOk r (λ w. request_outcome terms id h request ≡ Ok (option_map (λ x. written_in h (addition_of x)) w))
    → IfOk r (λ w. (stored : Histories) (k : List ℕ) → IsKept again own k → seen_in stored mid k ≡ after (seen_in stored m) (Ok (option_map (brought (seen_in stored m)) w)) k)
settle_dropped terms again m mid own id h request (Ok w) named last others became =
    λ stored k kept.
    still_elsewhere (seen_in stored m) (seen_in stored mid) id k (others stored) (kept_is_other own id k again named last kept)
    ∙ sym (after_elsewhere (seen_in stored m) id k h w (λ v e. request-named terms id h request v (became ∙ ap Ok e)) (kept_is_other own id k again named last kept))
settle_dropped terms again m mid own id h request (Err fault) named last others became = tt

pub settle_same_kept : (again : Bool) (m mid n : BTreeMap (List ℕ) HistoryContent) (own : Option (List ℕ)) (id : List ℕ) (h : HistoryContent) (r : Result (Option Write) WriteFault)
    → ((stored : Histories) → h ≡ seen_in stored m id)
    → ((stored : Histories) (g : HistoryContent) → with_history (seen_in stored mid) id g ≡ with_history (seen_in stored m) id g)
    → IfErr r (λ fault. fault ≢ Memory → (stored : Histories) → seen_in stored n ≡ with_history (seen_in stored mid) id h)
    → IfErr r (λ fault. fault ≢ Memory → (stored : Histories) (k : List ℕ) → IsKept again own k → seen_in stored n k ≡ seen_in stored m k)
settle_same_kept again m mid n own id h (Ok w) value others put = tt
settle_same_kept again m mid n own id h (Err fault) value others put =
    λ other stored k kept. ap (λ (hs : Histories). hs k) (seen_still (seen_in stored m) (seen_in stored mid) (seen_in stored n) id h (value stored) (others stored) (put other stored))

pub settle_same_dropped : (again : Bool) (m mid : BTreeMap (List ℕ) HistoryContent) (own : Option (List ℕ)) (id : List ℕ) (r : Result (Option Write) WriteFault)
    → own ≡ Some id → again ≡ false
    → ((stored : Histories) (g : HistoryContent) → with_history (seen_in stored mid) id g ≡ with_history (seen_in stored m) id g)
    → IfErr r (λ fault. fault ≢ Memory → (stored : Histories) (k : List ℕ) → IsKept again own k → seen_in stored mid k ≡ seen_in stored m k)
settle_same_dropped again m mid own id (Ok w) named last others = tt
settle_same_dropped again m mid own id (Err fault) named last others =
    λ other stored k kept. still_elsewhere (seen_in stored m) (seen_in stored mid) id k (others stored) (kept_is_other own id k again named last kept)

-- ---- what is told

pub told_is : (document : Value) (o : DocumentOutcome) (x : Outcome) (t : Told) (id rev : Option (List ℕ))
    → id ≡ member_text (codes "_id") document → rev ≡ member_text (codes "_rev") document → outcome_told o ≡ x
    → t ≡ record { id = id; rev = rev; outcome = x } → result_told document o ≡ t
told_is document o x t id rev is_id is_rev is_outcome is =
    (λ i. record { id = sym is_id i; rev = sym is_rev i; outcome = is_outcome i }) ∙ sym is

pub told_asked : (label : Label) (o : DocumentOutcome) (x : Outcome) (t : Told) → outcome_told o ≡ x
    → t ≡ record { id = option_map string_bytes label.id; rev = option_map string_bytes label.rev; outcome = x } → told_as label o ≡ t
told_asked label o x t is_outcome is =
    (λ i. record { id = option_map string_bytes label.id; rev = option_map string_bytes label.rev; outcome = is_outcome i }) ∙ sym is

-- the revision of a write, by the history of its own id
pub told_brought : (histories : Histories) (w : Option Write) (x : Outcome) → ((h : HistoryContent) → outcome_told (Ok (option_map (λ v. written_in h (addition_of v)) w)) ≡ x)
    → outcome_told (Ok (option_map (brought histories) w)) ≡ x
told_brought histories None x told = told (histories [])
told_brought histories (Some w) x told = told (histories w.id)

-- ---- what is written

pub none_pushed : (d : Database) (ws : List Write) (o : DocumentOutcome) (fault : WriteFault) → o ≡ Err fault
    → writings_in d (additions ws) ≡ writings_in d (additions ws) ++ put_before o []
none_pushed d ws o fault is = sym (append-nil (writings_in d (additions ws))) ∙ ap (λ (x : DocumentOutcome). writings_in d (additions ws) ++ put_before x []) (sym is)

at_own : (h g : Histories) (i : Option (List ℕ)) (id : List ℕ) → i ≡ Some id → AgreeAt i h g → h id ≡ g id
at_own h g i id is agree = subst (λ (x : Option (List ℕ)). AgreeAt x h g) is agree

pub pushed : (histories : Histories) (d : Database) (ws vs : List Write) (w : Option Write) (i : Option (List ℕ)) (o : DocumentOutcome) → o ≡ Ok (option_map (brought histories) w)
    → vs ≡ ws ++ option_to_list w → ((v : DocumentWrite) → o ≡ Ok (Some v) → i ≡ Some v.id) → AgreeAt i histories (history_at (with_all d (writings_in d (additions ws))))
    → writings_in d (additions vs) ≡ writings_in d (additions ws) ++ put_before o []
pushed histories d ws vs None i o is more named agree =
    ap (λ (us : List Write). writings_in d (additions us)) (more ∙ append-nil ws) ∙ sym (append-nil (writings_in d (additions ws)))
    ∙ ap (λ (x : DocumentOutcome). writings_in d (additions ws) ++ put_before x []) (sym is)
pushed histories d ws vs (Some w) i o is more named agree =
    ap (λ (us : List Write). writings_in d (additions us)) more ∙ ap (writings_in d) (map-append addition_of ws (w ∷ []))
    ∙ writings_in-append d (additions ws) (addition_of w ∷ [])
    ∙ ap (λ (h : HistoryContent). writings_in d (additions ws) ++ written_in h (addition_of w) ∷ [])
    (sym (at_own histories (history_at (with_all d (writings_in d (additions ws)))) i w.id (named (brought histories w) is) agree))
    ∙ ap (λ (x : DocumentOutcome). writings_in d (additions ws) ++ put_before x []) (sym is)

-- ---- all of them

-- So far these writes were made and this was told; what is left is judged by the histories that they left, and these are seen of each
-- id that is named still.
pub record IsJudged (terms : Terms) (new_edits : Bool) (d : Database) (all left : List Value) (m : BTreeMap (List ℕ) HistoryContent) (added : List Addition) (told_so_far : List Told) : Type 0 where
  pub seen : (id : List ℕ) → is_named id left ≡ true → seen_in (history_at d) m id ≡ history_at (with_all d (writings_in d added)) id
  pub writes : writings_in d added ++ writes_in (outcomes terms new_edits (history_at (with_all d (writings_in d added))) left) ≡ writes_in (outcomes terms new_edits (history_at d) all)
  pub results : told_so_far ++ all_told left (outcomes terms new_edits (history_at (with_all d (writings_in d added))) left) ≡ all_told all (outcomes terms new_edits (history_at d) all)

nothing_held : (stored : Histories) (m : BTreeMap (List ℕ) HistoryContent) → m.entries ≡ [] → seen_in stored m ≡ stored
nothing_held stored m none = λ i id. at_id id i
  where
    at_id : (id : List ℕ) → held_or (stored id) (get (slice_cmp nat_cmp) m id) ≡ stored id
    at_id id = rw none refl

begun_with : (terms : Terms) (new_edits : Bool) (d : Database) (all : List Value) (m : BTreeMap (List ℕ) HistoryContent) → m.entries ≡ [] → IsJudged terms new_edits d all all m [] []
begun_with terms new_edits d all m none =
    record { seen = λ id named. ap (λ (hs : Histories). hs id) (nothing_held (history_at d) m none); writes = refl; results = refl }

pub begun : (terms : Terms) (new_edits : Bool) (d : Database) (all left : List Value) (m : BTreeMap (List ℕ) HistoryContent) (added : List Addition) (results : List Told)
    → m.entries ≡ [] → left ≡ all → added ≡ [] → results ≡ [] → IsJudged terms new_edits d all left m added results
begun terms new_edits d all left m added results none whole nothing untold =
    subst (λ vs. IsJudged terms new_edits d all vs m added results) (sym whole)
    (subst (λ as_said. IsJudged terms new_edits d all all m as_said results) (sym nothing)
    (subst (λ ts. IsJudged terms new_edits d all all m [] ts) (sym untold) (begun_with terms new_edits d all m none)))

one_told : (front : List Told) (t : Told) (v : Value) (o : DocumentOutcome) (vs : List Value) (os : List DocumentOutcome) → result_told v o ≡ t
    → (front ++ t ∷ []) ++ all_told vs os ≡ front ++ all_told (v ∷ vs) (o ∷ os)
one_told front t v o vs os e = append_assoc front (t ∷ []) (all_told vs os) ∙ ap (λ x. front ++ x ∷ all_told vs os) (sym e)

put_before_front : (o : DocumentOutcome) (ws : List DocumentWrite) → put_before o [] ++ ws ≡ put_before o ws
put_before_front (Ok (Some w)) ws = refl
put_before_front (Ok None) ws = refl
put_before_front (Err fault) ws = refl

one_written : (front : List DocumentWrite) (o : DocumentOutcome) (ws : List DocumentWrite) → (front ++ put_before o []) ++ ws ≡ front ++ put_before o ws
one_written front o ws = append_assoc front (put_before o []) ws ∙ ap (λ x. front ++ x) (put_before_front o ws)

with_outcome : (db : Database) (o : DocumentOutcome) → db_after db o ≡ with_all db (put_before o [])
with_outcome db (Ok (Some w)) = refl
with_outcome db (Ok None) = refl
with_outcome db (Err fault) = refl

-- one document more
pub judged_next : (terms : Terms) (new_edits again : Bool) (d : Database) (all documents left : List Value) (v : Value) (m l n : BTreeMap (List ℕ) HistoryContent) (writes more : List Addition) (results others : List Told) (t : Told)
    → documents ≡ v ∷ left → IsJudged terms new_edits d all documents m writes results → seen_in (history_at d) l ≡ seen_in (history_at d) m → again ≡ is_named_if_any (member_text (codes "_id") v) left
    → ((stored : Histories) → result_told v (outcome_in terms new_edits (seen_in stored l) v) ≡ t)
    → ((stored : Histories) (id : List ℕ) → IsKept again (id_in v) id → seen_in stored n id ≡ after (seen_in stored l) (outcome_in terms new_edits (seen_in stored l) v) id)
    → ((stored : Histories) (e : Database) → AgreeAt (id_in v) (seen_in stored l) (history_at (with_all e (writings_in e writes)))
    → writings_in e more ≡ writings_in e writes ++ put_before (outcome_in terms new_edits (seen_in stored l) v) [])
    → others ≡ results ++ t ∷ [] → IsJudged terms new_edits d all left n more others
judged_next terms new_edits again d all documents left v m l n writes more results others t first so_far loaded comes is_told becomes written last =
    let e : Database = with_all d (writings_in d writes) in
    let hs : Histories = seen_in (history_at d) l in
    let sees : (id : List ℕ) → is_named id documents ≡ true → hs id ≡ history_at e id = λ id named. ap (λ (x : Histories). x id) loaded ∙ so_far.seen id named in
    let agree : AgreeAt (id_in v) hs (history_at e) = agree_at hs (history_at e) (id_in v) (λ id is. sees id (ap (is_named id) first ∙ first_named id v left is)) in
    let o : DocumentOutcome = outcome_in terms new_edits (history_at e) v in
    let same : outcome_in terms new_edits hs v ≡ o = outcome_agrees terms new_edits hs (history_at e) v (id_in v) agree in
    let one : writings_in d more ≡ writings_in d writes ++ put_before o [] = written (history_at d) d agree ∙ ap (λ (x : DocumentOutcome). writings_in d writes ++ put_before x []) same in
    let now : after (history_at e) o ≡ history_at (with_all d (writings_in d more)) =
    after_is e o ∙ ap history_at (with_outcome e o ∙ sym (with_all-append d (writings_in d writes) (put_before o [])) ∙ ap (with_all d) (sym one)) in
    let os : List DocumentOutcome = outcomes terms new_edits (after (history_at e) o) left in
    record {
      seen = λ id named. becomes (history_at d) id (λ is. comes ∙ named_again id v left is named)
          ∙ after_agrees hs (history_at e) (outcome_in terms new_edits hs v) id (sees id (ap (is_named id) first ∙ named_behind id v left named))
          ∙ ap (λ (x : DocumentOutcome). after (history_at e) x id) same ∙ ap (λ (x : Histories). x id) now;
      writes = ap (λ (x : Histories). writings_in d more ++ writes_in (outcomes terms new_edits x left)) (sym now)
          ∙ ap (λ ws. ws ++ writes_in os) one
          ∙ one_written (writings_in d writes) o (writes_in os)
          ∙ ap (λ vs. writings_in d writes ++ writes_in (outcomes terms new_edits (history_at e) vs)) (sym first)
          ∙ so_far.writes;
      results = ap (λ (x : Histories). others ++ all_told left (outcomes terms new_edits x left)) (sym now)
          ∙ ap (λ ts. ts ++ all_told left os) last
          ∙ one_told results t v o left os (ap (result_told v) (sym same) ∙ is_told (history_at d))
          ∙ ap (λ vs. results ++ all_told vs (outcomes terms new_edits (history_at e) vs)) (sym first)
          ∙ so_far.results;
    }

-- one document more, by what was read of it
pub judged_draft : (terms : Terms) (new_edits again : Bool) (d : Database) (all documents left : List Value) (v : Value) (label : Label) (own : Option (List ℕ)) (request : Request) (m l n : BTreeMap (List ℕ) HistoryContent) (writes more : List Addition) (results others : List Told) (t : Told)
    → documents ≡ v ∷ left → IsJudged terms new_edits d all documents m writes results → seen_in (history_at d) l ≡ seen_in (history_at d) m → again ≡ is_named_if_any (member_text (codes "_id") v) left
    → own ≡ id_in v → option_map string_bytes label.id ≡ member_text (codes "_id") v → option_map string_bytes label.rev ≡ member_text (codes "_rev") v
    → ((hs : Histories) → outcome_in terms new_edits hs v ≡ outcome_asked terms hs request own)
    → ((stored : Histories) → told_as label (outcome_asked terms (seen_in stored l) request own) ≡ t)
    → ((stored : Histories) (id : List ℕ) → IsKept again own id → seen_in stored n id ≡ after (seen_in stored l) (outcome_asked terms (seen_in stored l) request own) id)
    → ((stored : Histories) (e : Database) → AgreeAt own (seen_in stored l) (history_at (with_all e (writings_in e writes)))
    → writings_in e more ≡ writings_in e writes ++ put_before (outcome_asked terms (seen_in stored l) request own) [])
    → others ≡ results ++ t ∷ [] → IsJudged terms new_edits d all left n more others
judged_draft terms new_edits again d all documents left v label own request m l n writes more results others t first so_far loaded comes is_own is_id is_rev is_asked is_told becomes written last =
    judged_next terms new_edits again d all documents left v m l n writes more results others t first so_far loaded comes
    (λ stored. told_is v (outcome_in terms new_edits (seen_in stored l) v) (outcome_told (outcome_asked terms (seen_in stored l) request own)) t (option_map string_bytes label.id) (option_map string_bytes label.rev) is_id is_rev
    (ap outcome_told (is_asked (seen_in stored l))) (sym (is_told stored)))
    (λ stored id kept. becomes stored id (λ e. kept (sym is_own ∙ e)) ∙ ap (λ (o : DocumentOutcome). after (seen_in stored l) o id) (sym (is_asked (seen_in stored l))))
    (λ stored e agree. written stored e (subst (λ (i : Option (List ℕ)). AgreeAt i (seen_in stored l) (history_at (with_all e (writings_in e writes)))) (sym is_own) agree)
    ∙ ap (λ (o : DocumentOutcome). writings_in e writes ++ put_before o []) (sym (is_asked (seen_in stored l))))
    last

-- nothing is left
pub judged_writes : (terms : Terms) (new_edits : Bool) (d : Database) (all left : List Value) (m : BTreeMap (List ℕ) HistoryContent) (writes : List Addition) (results : List Told)
    → left ≡ [] → IsJudged terms new_edits d all left m writes results → writings_in d writes ≡ writes_in (outcomes terms new_edits (history_at d) all)
judged_writes terms new_edits d all left m writes results none so_far =
    sym (append-nil (writings_in d writes)) ∙ ap (λ vs. writings_in d writes ++ writes_in (outcomes terms new_edits (history_at (with_all d (writings_in d writes))) vs)) (sym none) ∙ so_far.writes

pub judged_results : (terms : Terms) (new_edits : Bool) (d : Database) (all left : List Value) (m : BTreeMap (List ℕ) HistoryContent) (writes : List Addition) (results : List Told)
    → left ≡ [] → IsJudged terms new_edits d all left m writes results → results ≡ all_told all (outcomes terms new_edits (history_at d) all)
judged_results terms new_edits d all left m writes results none so_far =
    sym (append-nil results) ∙ ap (λ vs. results ++ all_told vs (outcomes terms new_edits (history_at (with_all d (writings_in d writes))) vs)) (sym none) ∙ so_far.results
