-- What the model's function for a call comes to. Assumes nothing.
use Rattle.std.specs.Prelude.{Bool, ℕ}
use Rattle.std.proofs.Math.Bool.{true, false}
use Rattle.octets.specs.Logic.{choose}
use Rattle.refusal.specs.Answer.{Answer, gives, refuses, refuse, pass}
use Rattle.model.specs.Client.{Client}
use Rattle.model.specs.Calls.{Said, refused, Step, outcome}

-- What is true of a step where the call is refused, and of each step that it can come to, is true of what it comes to.
module _ (P : Step → Type 0) {A : Type 0} (f : A → Said) (c : Client) (keeps : (n : ℕ) → P (record { said = refused n; next = c })) where
  pub by_refuse : (b : Bool) (n : ℕ) (a : Answer (A × Client)) → P (outcome f c a) → P (outcome f c (refuse b n a))
  unfolding refuse
  by_refuse true n a k = keeps n
  by_refuse false n a k = k

  pub by_choose : (b : Bool) (y z : Answer (A × Client)) → P (outcome f c y) → P (outcome f c z) → P (outcome f c (choose b y z))
  unfolding choose
  by_choose true y z k l = k
  by_choose false y z k l = l

  pub by_pass : {B : Type 0} (y : Answer B) (g : B → Answer (A × Client)) → ((v : B) → P (outcome f c (g v))) → P (outcome f c (pass y g))
  unfolding pass
  by_pass (gives v) g k = k v
  by_pass (refuses n) g k = keeps n
