-- What an event of a script prints and changes.
-- This project's own; the order of replies is RFC 9112, section 9.3.2.
use Rattle.std.specs.Prelude.{◌≡◌, ◌⊎◌, ℕ, zero, suc, Bool, true, false, List, [], ◌∷◌, ◌++◌}
use Rattle.std.specs.List.{list_any}
use Rattle.store.specs.declared.store.Store.{Ghosts}
use Rattle.hub.specs.Answering.{StoreSteps}
use Rattle.hub.specs.Connections.{is_open}
use Rattle.world.specs.Happening.{Happening, Sight, comes, exchanges, replied, exchanged, ended}
use Rattle.world.specs.Network.{Network, has_transfer_ended}
use Rattle.world.specs.Playing.{Plays}
use Rattle.world.specs.Service.{alike}
use Rattle.world.specs.declared.fate.Fate.TheVariants.{Answered}
use Rattle.lab.specs.Printed.{closed_line, end_line_of, reply_line, step_line_of}

-- what is seen of the connection or pass that a script calls so, as a line
abbrev pub sight_line : List ℕ → Sight → List ℕ
sight_line name (replied t) = reply_line name t.reply
sight_line name (exchanged number is_to_target m status) = step_line_of name is_to_target m status
sight_line name (ended number asked) = end_line_of name asked

abbrev pub sight_lines : List ℕ → List Sight → List ℕ
sight_lines name [] = []
sight_lines name (s ∷ ss) = sight_line name s ++ sight_lines name ss

-- an event happens, and what is seen of it is printed
abbrev pub IsShown : {S : Type 0} → Ghosts S → Network S → Happening → List ℕ → List Sight → List ℕ → Network S → Type 0
IsShown g before h name seen printed after = Plays (alike (StoreSteps g)) before (h ∷ []) seen after × (printed ≡ sight_lines name seen)

-- A piece was sent on this connection, which a script calls so. Where the connection has ended it is said so, and nothing else happens.
-- Where it hasn't the world plays the piece, and the replies are printed.
abbrev pub IsSent : {S : Type 0} → Ghosts S → Network S → ℕ → List ℕ → List ℕ → List ℕ → Network S → Type 0
IsSent g before conn bytes name printed after =
    ((is_open before.connections conn ≡ false) × (printed ≡ closed_line name) × (after ≡ before))
    ⊎ ((is_open before.connections conn ≡ true)
    × ((seen : List Sight) × IsShown g before (comes (record { conn = conn; bytes = bytes })) name seen printed after))

-- a pass says that it has ended
abbrev pub is_end : Sight → Bool
is_end (replied t) = false
is_end (exchanged number is_to_target m status) = false
is_end (ended number asked) = true

abbrev pub says_end : List Sight → Bool
says_end seen = list_any is_end seen

-- A pass that has ended says so, and one that hasn't says nothing; nothing is asked.
abbrev pub SaysItsEnd : {S : Type 0} → Ghosts S → Network S → ℕ → List ℕ → List ℕ → Network S → Type 0
SaysItsEnd g before number name printed after =
    ((has_transfer_ended before.transfers number ≡ true)
    × ((seen : List Sight) × IsShown g before (exchanges number Answered) name seen printed after))
    ⊎ ((has_transfer_ended before.transfers number ≡ false) × (printed ≡ []) × (after ≡ before))

-- So many exchanges of this pass, or fewer, up to its end. It is said also where the last of them was the last of the pass.
abbrev pub Runs : {S : Type 0} → Ghosts S → ℕ → Network S → ℕ → List ℕ → List ℕ → Network S → Type 0
Runs g zero before number name printed after = SaysItsEnd g before number name printed after
Runs {S} g (suc count) before number name printed after =
    (seen : List Sight) × (first : List ℕ) × (between : Network S) × IsShown g before (exchanges number Answered) name seen first between
    × (((says_end seen ≡ true) × (printed ≡ first) × (after ≡ between))
    ⊎ ((says_end seen ≡ false) × ((rest : List ℕ) × Runs g count between number name rest after × (printed ≡ first ++ rest))))
