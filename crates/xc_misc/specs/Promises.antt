-- THE PROMISES of the public calls: what a contract says of the answer r, and that any two answers that it allows are equal. Of the requests that is `Writes` (`Requests.antt`), of a list `Lists` (`Replies.antt`). Assumes nothing.
use Rattle.std.specs.Prelude.{◌≡◌, List, ℕ, Result}
use Rattle.std.proofs.Common.{sym, ◌∙◌}
use Rattle.xc_misc.specs.Replies.{version, range, says_version, says_range, version_one, range_one}
use Rattle.refusal.specs.declared.Refusal.{Refusal}
use Rattle.xc_misc.specs.declared.reply.GetVersionReply.{GetVersionReply}
use Rattle.xc_misc.specs.declared.reply.GetXIDRangeReply.{GetXIDRangeReply}

-- `get_version_reply`
module _ (order : ℕ) (packet : List ℕ) where
  abbrev pub ReadsVersion : Result GetVersionReply Refusal → Type 0
  ReadsVersion r = says_version r ≡ version order packet

  pub reads_version_one : (a b : Result GetVersionReply Refusal) → ReadsVersion a → ReadsVersion b → a ≡ b
  reads_version_one a b x y = version_one a b (x ∙ sym y)

-- `get_xid_range_reply`
module _ (order : ℕ) (packet : List ℕ) where
  abbrev pub ReadsRange : Result GetXIDRangeReply Refusal → Type 0
  ReadsRange r = says_range r ≡ range order packet

  pub reads_range_one : (a b : Result GetXIDRangeReply Refusal) → ReadsRange a → ReadsRange b → a ≡ b
  reads_range_one a b x y = range_one a b (x ∙ sym y)
