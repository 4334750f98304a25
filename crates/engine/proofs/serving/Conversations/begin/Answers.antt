use Rattle.std.proofs.Common.{◌≡◌, ◌∙◌, true, Result, Ok, Err, OnOk, sym, ap, true≢false}
use Rattle.std.specs.FinMap.{insert}
use Rattle.std.specs.Result.{is_ok}
use Rattle.engine.specs.Standing.{Standing}
use Rattle.engine.specs.inner.Rounds.{standings_of}
use Rattle.engine.proofs.Standings.{standings_with}
use Rattle.engine.proofs.Talks.{open_free}
use Rattle.engine.proofs.serving.Conversations.begin.Goals as goal

on_ok : {A E X : Type 0} (r : Result A E) → is_ok r ≡ true → OnOk r X → X
on_ok (Ok a) is h = h
on_ok (Err e) is h = absurd (true≢false (sym is))

pub returns-clause-begins : goal.returns-clause-begins
returns-clause-begins g c = λ done.
    standings_with c.args.self.now.conversations.entries c.insert.new.self.entries c.args.conn c.new-conversation.result (on_ok c.insert.result (sym c.is_ok.ensures.value ∙ done) c.insert.ensures.updates).0
    ∙ ap (λ (s : Standing). insert (standings_of c.args.self.now.conversations.entries) c.args.conn s)
    (open_free c.new-conversation.result.stage c.new-conversation.result.owed c.new-conversation.ensures.stage c.new-conversation.ensures.owed)
