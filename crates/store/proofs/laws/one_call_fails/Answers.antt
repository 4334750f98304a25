use Rattle.store.proofs.FailingCalls.{call_fails, fails_alone, is_counted, never_counted, uncounted_before}
use Rattle.store.proofs.laws.one_call_fails.Goals as goal

pub returns : goal.returns
returns c = record { fails = call_fails; alone = fails_alone; counted = is_counted; before = uncounted_before; never = never_counted }
