-- Lines played one after the other.
use Rattle.std.proofs.Common.{ℕ, ◌≡◌, ◌∙◌, ◌+◌, ◌++◌, List, [], ◌∷◌, Option, Some, None, ap, sym, subst, refl, append_assoc, append-nil, length-append, add-one}
use Rattle.std.specs.Prelude.{IfSome, is_some, true}
use Rattle.std.specs.Io.BufRead.{drop_through, first_piece, strip_last, take_through}
use Rattle.std.specs.Io.KnownBytes.{IsAtEnd, Keeps}
use Rattle.std.proofs.KnownBytes.{Appends-kept, Appends-nil}
use Rattle.auth.specs.Callers.{Configuration}
use Rattle.store.specs.declared.store.Store.{Ghosts}
use Rattle.lab.specs.Playing.{Prints, ReadsLines, after_lines}
use Rattle.world.specs.Happening.{Sight, exchanges}
use Rattle.world.specs.declared.fate.Fate.{Fate}
use Rattle.lab.specs.Naming.{NamedValue, value_named}
use Rattle.lab.specs.PassLines.{PassWords}
use Rattle.lab.specs.Replies.{IsShown}
use Rattle.lab.specs.Scene.{BeginsWith, Closes, Exchanges, HasPlayed, NamedNetwork, Opens, Plays, PlaysAll, PlaysBefore, PlaysScript, Scene, Sends, Starts, TakesTurn, laying, running, first_network}
use Rattle.lab.specs.Script.{ScriptLine, close_line, conn_line, line_of, repl_line, send_line, turn_line}
use Rattle.lab.specs.declared.turn.Turn.{Turn}
use Rattle.lab.specs.Stages.{AreBytesPlayed, IsLinePlayed}
use Rattle.lab.proofs.ReplyLemmas.{Appends-then}

PlaysAll-then : {S : Type 0} (g : Ghosts S) (c : Configuration) (a b d : Scene S) (lines more : List ScriptLine) (xs ys : List ℕ)
    → PlaysAll g c a lines xs b → PlaysAll g c b more ys d → PlaysAll g c a (lines ++ more) (xs ++ ys) d
PlaysAll-then {S} g c a b d [] more xs ys p q =
    subst (λ (zs : List ℕ). PlaysAll g c a more zs d) (sym (ap (λ zs. zs ++ ys) p.0)) (subst (λ (s : Scene S). PlaysAll g c s more ys d) p.1 q)
PlaysAll-then g c a b d (line ∷ lines) more xs ys p q =
    let later = p.3 in
    (p.0, p.1, p.2, (later.0 ++ ys, PlaysAll-then g c p.1 b d lines more later.0 ys later.1 q, ap (λ zs. zs ++ ys) later.2 ∙ append_assoc p.0 later.0 ys))

PlaysAll-one : {S : Type 0} (g : Ghosts S) (c : Configuration) (a b : Scene S) (line : ScriptLine) (xs : List ℕ) → Plays g c a line xs b → PlaysAll g c a (line ∷ []) xs b
PlaysAll-one g c a b line xs p = (xs, b, p, ([], (refl, refl), sym (append-nil xs)))

BeginsWith-then : (script rest end : List ℕ) (lines more : List ScriptLine) → BeginsWith script lines rest → BeginsWith rest more end → BeginsWith script (lines ++ more) end
BeginsWith-then script rest end [] more p q = subst (λ (xs : List ℕ). BeginsWith xs more end) p q
BeginsWith-then script rest end (line ∷ lines) more p q = (p.0, BeginsWith-then (drop_through 10 script) rest end lines more p.1 q)

played_more : {S : Type 0} (g : Ghosts S) (c : Configuration) (n : ℕ) (script bytes : List ℕ) (a b d : Option (List ℕ)) (before after : Scene S)
    → HasPlayed g c n script (after_lines n script) a b before → bytes ≡ first_piece 10 (after_lines n script) → AreBytesPlayed g c before bytes b d after
    → HasPlayed g c (n + 1) script (after_lines (n + 1) script) a d after
played_more g c n script bytes a b d before after p same q =
    let one = q.2 in
    record {
      lines = p.lines ++ q.0 ∷ [];
      counted = length-append p.lines (q.0 ∷ []) ∙ ap (λ k. k + 1) p.counted;
      begins = rw add-one (BeginsWith-then script (after_lines n script) (drop_through 10 (after_lines n script)) p.lines (q.0 ∷ []) p.begins (ap line_of (sym same) ∙ q.1, refl));
      printed = p.printed ++ one.0;
      played = PlaysAll-then g c (laying []) before after p.lines (q.0 ∷ []) p.printed one.0 p.played (PlaysAll-one g c before after q.0 one.0 one.1);
      shown = Appends-then a b d p.printed one.0 p.shown one.2;
    }

-- one more line was read and played
pub HasPlayed-more : {S : Type 0} (g : Ghosts S) (c : Configuration) (n : ℕ) (old now : Option (List ℕ)) (line : List ℕ) (a b d e : Option (List ℕ)) (before after : Scene S)
    → IfSome old (λ script. HasPlayed g c n script (after_lines n script) a b before) → ReadsLines n old now → IfSome now (λ rest. line ≡ take_through 10 rest)
    → AreBytesPlayed g c before (strip_last 10 line) b d after → Keeps d e
    → IfSome old (λ script. HasPlayed g c (n + 1) script (after_lines (n + 1) script) a e after)
HasPlayed-more g c n None now line a b d e before after p reads is q keeps = tt
HasPlayed-more g c n (Some script) now line a b d e before after p reads is q keeps =
    let same : line ≡ take_through 10 (after_lines n script) = rw reads at is in
    played_more g c n script (strip_last 10 line) a b e before after p (ap (strip_last 10) same)
    (q.0, q.1, (q.2.0, q.2.1, Appends-kept b d e q.2.0 q.2.2 keeps))

-- no line was
pub HasPlayed-none : {S : Type 0} (g : Ghosts S) (c : Configuration) (old a : Option (List ℕ)) (scene : Scene S) → scene ≡ laying []
    → IfSome old (λ script. HasPlayed g c 0 script (after_lines 0 script) a a scene)
HasPlayed-none g c None a scene same = tt
HasPlayed-none g c (Some script) a scene same = record { lines = []; counted = refl; begins = refl; printed = []; played = (refl, same); shown = Appends-nil a }

-- all lines were
pub PlaysScript-end : {S : Type 0} (g : Ghosts S) (c : Configuration) (n : ℕ) (old now a b : Option (List ℕ)) (scene : Scene S)
    → IfSome old (λ script. HasPlayed g c n script (after_lines n script) a b scene) → ReadsLines n old now → IsAtEnd now
    → IfSome old (λ script. PlaysScript g c script a b)
PlaysScript-end g c n None now a b scene p reads end = tt
PlaysScript-end g c n (Some script) now a b scene p reads end =
    let over : after_lines n script ≡ [] = rw reads at end in
    (n, scene, subst (λ (rest : List ℕ). HasPlayed g c n script rest a b scene) over p)

kept : {S : Type 0} (g : Ghosts S) (c : Configuration) (n : ℕ) (script rest : List ℕ) (a b d : Option (List ℕ)) (scene : Scene S)
    → HasPlayed g c n script rest a b scene → Keeps b d → HasPlayed g c n script rest a d scene
kept g c n script rest a b d scene p keeps = record {
  lines = p.lines;
  counted = p.counted;
  begins = p.begins;
  printed = p.printed;
  played = p.played;
  shown = Appends-kept a b d p.printed p.shown keeps;
}

-- the next line could not be played, and nothing of it was printed
pub PlaysBefore-fault : {S : Type 0} (g : Ghosts S) (c : Configuration) (n m : ℕ) (old a b d : Option (List ℕ)) (scene : Scene S)
    → IfSome old (λ script. HasPlayed g c n script (after_lines n script) a b scene) → Keeps b d → n + 1 ≡ m
    → IfSome old (λ script. PlaysBefore g c m script a d)
PlaysBefore-fault g c n m None a b d scene p keeps is = tt
PlaysBefore-fault g c n m (Some script) a b d scene p keeps is = (n, sym is, (after_lines n script, scene, kept g c n script (after_lines n script) a b d scene p keeps))

-- a line that was played is one, and what was printed stands
pub AreBytesPlayed-line : {S : Type 0} (g : Ghosts S) (c : Configuration) (before : Scene S) (bytes : List ℕ) (b d : Option (List ℕ)) (after : Scene S)
    → AreBytesPlayed g c before bytes b d after → is_some (line_of bytes) ≡ true
AreBytesPlayed-line g c before bytes b d after q = ap is_some q.1

pub AreBytesPlayed-prints : {S : Type 0} (g : Ghosts S) (c : Configuration) (before : Scene S) (bytes : List ℕ) (b d : Option (List ℕ)) (after : Scene S)
    → AreBytesPlayed g c before bytes b d after → Prints b d
AreBytesPlayed-prints g c before bytes b d after q = (q.2.0, q.2.2)

-- ---- what a line does, by its kind

pub plays_first : {S : Type 0} (g : Ghosts S) (c : Configuration) (nodes : List (NamedValue S)) (line : ScriptLine) (node name : List ℕ) (begun after : NamedNetwork S)
    → line ≡ conn_line node name → begun ≡ first_network c nodes → Opens begun node name after → Plays g c (laying nodes) line [] (running after)
plays_first {S} g c nodes line node name begun after same starts opens =
    subst (λ (l : ScriptLine). Plays g c (laying nodes) l [] (running after)) (sym same)
    (refl, (after, subst (λ (n : NamedNetwork S). Opens n node name after) starts opens, refl))

pub plays_first_pass : {S : Type 0} (g : Ghosts S) (c : Configuration) (nodes : List (NamedValue S)) (line : ScriptLine) (words : PassWords) (begun after : NamedNetwork S)
    → line ≡ repl_line words → begun ≡ first_network c nodes → Starts c begun words after → Plays g c (laying nodes) line [] (running after)
plays_first_pass {S} g c nodes line words begun after same starts begins =
    subst (λ (l : ScriptLine). Plays g c (laying nodes) l [] (running after)) (sym same)
    (refl, (after, subst (λ (n : NamedNetwork S). Starts c n words after) starts begins, refl))

pub plays_pass : {S : Type 0} (g : Ghosts S) (c : Configuration) (names : NamedNetwork S) (line : ScriptLine) (words : PassWords) (after : NamedNetwork S)
    → line ≡ repl_line words → Starts c names words after → Plays g c (running names) line [] (running after)
plays_pass g c names line words after same begins =
    subst (λ (l : ScriptLine). Plays g c (running names) l [] (running after)) (sym same) (refl, (after, begins, refl))

pub exchanges_of : {S : Type 0} (g : Ghosts S) (before after : NamedNetwork S) (name : List ℕ) (number : ℕ) (fate : Fate) (seen : List Sight) (printed : List ℕ)
    → value_named name before.passes ≡ Some number → IsShown g before.network (exchanges number fate) name seen printed after.network
    → after ≡ record before { network = after.network } → Exchanges g before name fate printed after
exchanges_of g before after name number fate seen printed named shown same = (number, named, (seen, after.network, shown, same))

pub turned : {S : Type 0} (g : Ghosts S) (turn kind : Turn) (before after : NamedNetwork S) (name printed : List ℕ) → turn ≡ kind → TakesTurn g kind before name printed after
    → TakesTurn g turn before name printed after
turned g turn kind before after name printed same p = subst (λ (t : Turn). TakesTurn g t before name printed after) (sym same) p

pub plays_turn : {S : Type 0} (g : Ghosts S) (c : Configuration) (names : NamedNetwork S) (line : ScriptLine) (turn : Turn) (name printed : List ℕ) (after : NamedNetwork S)
    → line ≡ turn_line turn name → TakesTurn g turn names name printed after → Plays g c (running names) line printed (running after)
plays_turn g c names line turn name printed after same p = subst (λ (l : ScriptLine). Plays g c (running names) l printed (running after)) (sym same) (after, p, refl)

pub plays_conn : {S : Type 0} (g : Ghosts S) (c : Configuration) (names : NamedNetwork S) (line : ScriptLine) (node name : List ℕ) (after : NamedNetwork S)
    → line ≡ conn_line node name → Opens names node name after → Plays g c (running names) line [] (running after)
plays_conn g c names line node name after same opens =
    subst (λ (l : ScriptLine). Plays g c (running names) l [] (running after)) (sym same) (refl, (after, opens, refl))

pub plays_send : {S : Type 0} (g : Ghosts S) (c : Configuration) (names : NamedNetwork S) (line : ScriptLine) (name bytes printed : List ℕ) (after : NamedNetwork S)
    → line ≡ send_line name bytes → Sends g names name bytes printed after → Plays g c (running names) line printed (running after)
plays_send g c names line name bytes printed after same sends =
    subst (λ (l : ScriptLine). Plays g c (running names) l printed (running after)) (sym same) (after, sends, refl)

pub plays_close : {S : Type 0} (g : Ghosts S) (c : Configuration) (names : NamedNetwork S) (line : ScriptLine) (name : List ℕ) (after : NamedNetwork S)
    → line ≡ close_line name → Closes names name after → Plays g c (running names) line [] (running after)
plays_close g c names line name after same closes =
    subst (λ (l : ScriptLine). Plays g c (running names) l [] (running after)) (sym same) (refl, (after, closes, refl))

pub bytes_played : {S : Type 0} (g : Ghosts S) (c : Configuration) (scene before : Scene S) (line : ScriptLine) (bytes : List ℕ) (old new : Option (List ℕ)) (after : Scene S)
    → line_of bytes ≡ Some line → scene ≡ before → IsLinePlayed g c before line old new after → AreBytesPlayed g c scene bytes old new after
bytes_played {S} g c scene before line bytes old new after is same p =
    (line, is, subst (λ (s : Scene S). IsLinePlayed g c s line old new after) (sym same) p)
