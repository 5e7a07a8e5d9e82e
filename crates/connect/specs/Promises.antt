-- THE PROMISES of the public calls: what a contract says of the answer r, and that any two answers that it allows are equal. Of `buffer` that is `Lent` (`Handshake.antt`), of `vendor` and `reason` `Shown` (`Setup.antt`). Assumes nothing.
use Rattle.std.specs.Prelude.{◌≡◌, List, ℕ, length, Result}
use Rattle.std.proofs.Common.{sym, ◌∙◌}
use Rattle.connect.specs.Handshake.{made, capacity, unfilled, advanced, says_made, says_capacity, says_advanced, made_one, capacity_one, advanced_one}
use Rattle.connect.specs.Setup.{setup, says_setup, setup_one}
use Rattle.connect.specs.declared.handshake.Connect.{Connect}
use Rattle.octets.specs.declared.Span.{Span}
use Rattle.connect.specs.declared.handshake.Advanced.{Advanced}
use Rattle.connect.specs.declared.reply.SetupAnswer.{SetupAnswer}
use Rattle.refusal.specs.declared.Refusal.{Refusal}

-- `Connect::new`
module _ (order : ℕ) (buf : List ℕ) where
  abbrev pub Makes : Result Connect Refusal → Type 0
  Makes r = says_made r ≡ made order (length buf)

  pub makes_one : (a b : Result Connect Refusal) → Makes a → Makes b → a ≡ b
  makes_one a b x y = made_one a b (x ∙ sym y)

-- `remaining_capacity`
module _ (connect : Connect) (buf : List ℕ) where
  abbrev pub Remains : Result ℕ Refusal → Type 0
  Remains r = says_capacity r ≡ capacity connect buf

  pub remains_one : (a b : Result ℕ Refusal) → Remains a → Remains b → a ≡ b
  remains_one a b x y = capacity_one a b (x ∙ sym y)

-- `unfilled`
module _ (connect : Connect) (buf : List ℕ) where
  abbrev pub Lies : Span → Type 0
  Lies r = r ≡ unfilled connect buf

  pub lies_one : (a b : Span) → Lies a → Lies b → a ≡ b
  lies_one a b x y = x ∙ sym y

-- `advance`
module _ (connect : Connect) (buf : List ℕ) (amount : ℕ) where
  abbrev pub Advances : Result Advanced Refusal → Type 0
  Advances r = says_advanced r ≡ advanced connect buf amount

  pub advances_one : (a b : Result Advanced Refusal) → Advances a → Advances b → a ≡ b
  advances_one a b x y = advanced_one a b (x ∙ sym y)

-- `setup`
module _ (connect : Connect) (buf : List ℕ) where
  abbrev pub ReadsSetup : Result SetupAnswer Refusal → Type 0
  ReadsSetup r = says_setup r ≡ setup connect buf

  pub reads_setup_one : (a b : Result SetupAnswer Refusal) → ReadsSetup a → ReadsSetup b → a ≡ b
  reads_setup_one a b x y = setup_one a b (x ∙ sym y)
