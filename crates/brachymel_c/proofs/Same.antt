-- Each export promises what the function of `brachymel` of its name does, and asks no more than it. So what `claims` says of calls of those holds of
-- calls of these.
use Rattle.brachymel.proofs.brachymel_read.Reads as read
use Rattle.brachymel.proofs.brachymel_write.Reads as write
use Rattle.brachymel.proofs.brachymel_list.Reads as list
use Rattle.brachymel.proofs.brachymel_compare.Reads as compare
use Rattle.brachymel.proofs.brachymel_trigger_read.Reads as trigger_read
use Rattle.brachymel.proofs.brachymel_trigger_write.Reads as trigger_write
use Rattle.brachymel.proofs.brachymel_trigger_overlaps.Reads as trigger_overlaps
use Rattle.brachymel.proofs.brachymel_streams_row.Reads as streams_row
use Rattle.brachymel.proofs.brachymel_streams_number.Reads as streams_number
use Rattle.brachymel.proofs.brachymel_streams.Reads as streams
use Rattle.brachymel_c.proofs.brachymel_read.Reads as c_read
use Rattle.brachymel_c.proofs.brachymel_write.Reads as c_write
use Rattle.brachymel_c.proofs.brachymel_list.Reads as c_list
use Rattle.brachymel_c.proofs.brachymel_compare.Reads as c_compare
use Rattle.brachymel_c.proofs.brachymel_trigger_read.Reads as c_trigger_read
use Rattle.brachymel_c.proofs.brachymel_trigger_write.Reads as c_trigger_write
use Rattle.brachymel_c.proofs.brachymel_trigger_overlaps.Reads as c_trigger_overlaps
use Rattle.brachymel_c.proofs.brachymel_streams_row.Reads as c_streams_row
use Rattle.brachymel_c.proofs.brachymel_streams_number.Reads as c_streams_number
use Rattle.brachymel_c.proofs.brachymel_streams.Reads as c_streams

pub read_promised : (κs : _) (a : _) (r : _) (s : _) → c_read.Post κs a r s → read.Post κs a r s
read_promised κs a r s p = p

pub read_asked : (κs : _) (a : _) → read.Asked κs a → c_read.Asked κs a
read_asked κs a p = p

pub write_promised : (κs : _) (a : _) (r : _) (s : _) → c_write.Post κs a r s → write.Post κs a r s
write_promised κs a r s p = p

pub write_asked : (κs : _) (a : _) → write.Asked κs a → c_write.Asked κs a
write_asked κs a p = p

pub list_promised : (κs : _) (a : _) (r : _) (s : _) → c_list.Post κs a r s → list.Post κs a r s
list_promised κs a r s p = p

pub list_asked : (κs : _) (a : _) → list.Asked κs a → c_list.Asked κs a
list_asked κs a p = p

pub compare_promised : (κs : _) (a : _) (r : _) (s : _) → c_compare.Post κs a r s → compare.Post κs a r s
compare_promised κs a r s p = p

pub compare_asked : (κs : _) (a : _) → compare.Asked κs a → c_compare.Asked κs a
compare_asked κs a p = p

pub trigger_read_promised : (κs : _) (a : _) (r : _) (s : _) → c_trigger_read.Post κs a r s → trigger_read.Post κs a r s
trigger_read_promised κs a r s p = p

pub trigger_read_asked : (κs : _) (a : _) → trigger_read.Asked κs a → c_trigger_read.Asked κs a
trigger_read_asked κs a p = p

pub trigger_write_promised : (κs : _) (a : _) (r : _) (s : _) → c_trigger_write.Post κs a r s → trigger_write.Post κs a r s
trigger_write_promised κs a r s p = p

pub trigger_write_asked : (κs : _) (a : _) → trigger_write.Asked κs a → c_trigger_write.Asked κs a
trigger_write_asked κs a p = p

pub trigger_overlaps_promised : (κs : _) (a : _) (r : _) (s : _) → c_trigger_overlaps.Post κs a r s → trigger_overlaps.Post κs a r s
trigger_overlaps_promised κs a r s p = p

pub trigger_overlaps_asked : (κs : _) (a : _) → trigger_overlaps.Asked κs a → c_trigger_overlaps.Asked κs a
trigger_overlaps_asked κs a p = p

pub streams_row_promised : (κs : _) (a : _) (r : _) (s : _) → c_streams_row.Post κs a r s → streams_row.Post κs a r s
streams_row_promised κs a r s p = p

pub streams_row_asked : (κs : _) (a : _) → streams_row.Asked κs a → c_streams_row.Asked κs a
streams_row_asked κs a p = p

pub streams_number_promised : (κs : _) (a : _) (r : _) (s : _) → c_streams_number.Post κs a r s → streams_number.Post κs a r s
streams_number_promised κs a r s p = p

pub streams_number_asked : (κs : _) (a : _) → streams_number.Asked κs a → c_streams_number.Asked κs a
streams_number_asked κs a p = p

pub streams_promised : (κs : _) (a : _) (r : _) (s : _) → c_streams.Post κs a r s → streams.Post κs a r s
streams_promised κs a r s p = p

pub streams_asked : (κs : _) (a : _) → streams.Asked κs a → c_streams.Asked κs a
streams_asked κs a p = p
