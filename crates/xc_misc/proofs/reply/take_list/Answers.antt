use Rattle.xc_misc.specs.Replies.{list_long, list_whole, lists_short, lists_given}
use Rattle.xc_misc.proofs.reply.take_list.Goals as goal

pub list_fields-reply-requires : goal.list_fields-reply-requires
list_fields-reply-requires c = list_long _ _ c.requires

pub returns-then-ids-count : goal.returns-then-ids-count
returns-then-ids-count c = lists_short _ _ _ _ c.requires c.list_fields-reply.ensures c.if-ids-count.true

pub read_ids-requires : goal.read_ids-requires
read_ids-requires c = (rw c.list_fields-reply.ensures (list_whole _ _ c.requires), c.if-ids-count.false)

pub returns : goal.returns
returns c = lists_given _ _ _ _ _ c.requires c.list_fields-reply.ensures c.if-ids-count.false c.read_ids.ensures
