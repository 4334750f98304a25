-- The members of an argument whose documents change.
-- This crate's own: it ties the members that the code keeps to the circumstances that they stand for.
use Rattle.std.specs.Prelude.{◌≡◌, codes}
use Rattle.couch_json.specs.Value.{Value, Members, no_members, member}

-- the members behind the first two
abbrev pub behind_two : Members → Members
behind_two no_members = no_members
behind_two (member name v no_members) = no_members
behind_two (member name v (member other w ms)) = ms

-- the first two are the documents, whatever they are
pub record HasDocuments (ms : Members) : Type 0 where
  pub new : Value
  pub old : Value
  pub rest : Members
  pub is : ms ≡ member (codes "newDoc") new (member (codes "oldDoc") old rest)

-- where the first two of the one are the documents, so are those of the other, and those behind them are the same
abbrev pub KeepsCircumstances : Members → Members → Type 0
KeepsCircumstances before after = HasDocuments before → HasDocuments after × (behind_two after ≡ behind_two before)
