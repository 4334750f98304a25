-- An exchange, of what was written and of what was read.
use Rattle.std.proofs.Common.{◌≡◌, ◌∙◌, ℕ, Bool, true, false, List, refl, sym, true≢false}
use Rattle.sync.specs.Exchange.{ExchangesBytes, ReadsBytes, Standing, Writes}
use Rattle.sync.specs.declared.answer.Answer.{Answer}
use Rattle.sync.specs.declared.answer.Answer.TheVariants.{Lost}

module _ (request : List ℕ) (input rest output after : Standing) (all : Bool) (wrote : Writes request output after all) where
  -- where the request wasn't written whole nothing was read
  pub unsent : all ≡ false → ExchangesBytes request input input output after Lost 0
  unsent part = record {
    exchanges = record {
      all = all;
      wrote = wrote;
      reads = λ whole. absurd (true≢false (sym whole ∙ part));
      unread = λ _. (refl, refl);
    };
    some = λ whole. absurd (true≢false (sym whole ∙ part));
    none = λ _. refl;
  }

  pub sent : (answer : Answer) (count : ℕ) → all ≡ true → ReadsBytes input rest answer count → ExchangesBytes request input rest output after answer count
  sent answer count whole read = record {
    exchanges = record {
      all = all;
      wrote = wrote;
      reads = λ _. read.reads;
      unread = λ part. absurd (true≢false (sym whole ∙ part));
    };
    some = λ _. read.counted;
    none = λ part. absurd (true≢false (sym whole ∙ part));
  }
