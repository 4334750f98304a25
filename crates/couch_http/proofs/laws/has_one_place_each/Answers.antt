use Rattle.couch_http.proofs.PlaceLemmas.{Cuts_placed, EndsAt_unique}
use Rattle.couch_http.proofs.laws.has_one_place_each.Goals as goal

pub returns : goal.returns
returns c = λ bytes messages end cuts.
    let (places, ends, count) = Cuts_placed bytes messages end 0 cuts in
    (places, ends, count, λ others also. EndsAt_unique 0 bytes messages others places also ends)
