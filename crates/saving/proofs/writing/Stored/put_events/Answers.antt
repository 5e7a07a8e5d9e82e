use Rattle.std.proofs.Common.{sym, ◌∙◌}
use Rattle.saving.specs.WritingRows.{all_room, all_events}
use Rattle.saving.proofs.writing.Stored.put_events.Goals as goal

pub put_window-requires : goal.put_window-requires
put_window-requires c = (c.requires.0.all_of, c.requires.0.few_all, all_room _ _ c.args.self.now.readable (sym c.requires.0.counts ∙ c.if-replies-eq0.true) _ _ c.requires.1)

pub returns-then-replies-eq0 : goal.returns-then-replies-eq0
returns-then-replies-eq0 c = all_events _ _ c.args.self.now.readable (sym c.requires.0.counts ∙ c.if-replies-eq0.true) _ _ _ _ c.put_window.ensures
