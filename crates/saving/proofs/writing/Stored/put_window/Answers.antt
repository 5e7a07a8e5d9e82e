use Rattle.std.proofs.Common.{arith}
use Rattle.saving.specs.WritingRows.{window_part, window_long, window_put}
use Rattle.saving.proofs.writing.Stored.put_window.Goals as goal

pub copy_in-requires : goal.copy_in-requires
copy_in-requires c = let R = c.args.self.now.readable in omega (arith, window_part _ _ R, window_long _ _ R, c.requires.2)

pub returns : goal.returns
returns c = let R = c.args.self.now.readable in (omega (arith, window_long _ _ R, R.order), window_put _ _ R _ _ _ _ _ c.requires.0 c.requires.2 c.put_u32.ensures c.copy_in.ensures)
