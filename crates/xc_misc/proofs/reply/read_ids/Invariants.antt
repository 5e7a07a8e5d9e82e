use Rattle.std.proofs.Common.{◌≡◌, ℕ, ◌-◌, List, length}
use Rattle.octets.specs.Put.{put}
use Rattle.xc_misc.specs.Replies.{ids_of}
use Rattle.xc_misc.proofs.reply.read_ids.Given as goal

pub record Inv (order : ℕ) (packet : List ℕ) (count : ℕ) (ids₀ ids : List ℕ) (i : ℕ) : Type 0 where
  pub is : ids ≡ put ids₀ 0 (ids_of order i packet)
  pub long : length ids ≡ length ids₀

abbrev pub invariant-loop-i : goal.invariant-loop-i
invariant-loop-i l = Inv l.order l.packet l.count l.initial.ids l.ids l.i
