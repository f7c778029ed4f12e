-- Calls: names for what a function is given and what it gives.
--
-- What a call may give is what its contract says: `Post`, of the arguments a, the result r and the arguments s at exit. Here alone they are taken
-- by their places; the claims speak of calls.
use Rattle.std.specs.Prelude.{List, ℕ}
use Rattle.answer.specs.declared.Answer.{Answer}
use Rattle.reader.proofs.read.Reads as read
use Rattle.writer.proofs.write.Reads as write
use Rattle.listing.proofs.list.Reads as list
use Rattle.responding.proofs.respond.Reads as respond
use Rattle.brachymel.proofs.brachymel_read.Reads as c_read
use Rattle.brachymel.proofs.brachymel_write.Reads as c_write
use Rattle.brachymel.proofs.brachymel_list.Reads as c_list
use Rattle.trigger.proofs.read.Reads as trigger_read
use Rattle.trigger.proofs.write.Reads as trigger_write
use Rattle.overlaps.proofs.overlaps.Reads as trigger_overlaps
use Rattle.brachymel.proofs.brachymel_trigger_read.Reads as c_trigger_read
use Rattle.brachymel.proofs.brachymel_trigger_write.Reads as c_trigger_write
use Rattle.brachymel.proofs.brachymel_trigger_overlaps.Reads as c_trigger_overlaps
use Rattle.compare.proofs.compare.Reads as compare
use Rattle.brachymel.proofs.brachymel_compare.Reads as c_compare
use Rattle.comparing.proofs.respond.Reads as compare_respond
use Rattle.stream_rows.proofs.put_row.Reads as put_row
use Rattle.stream_rows.proofs.number_of.Reads as number_of_row
use Rattle.streams.proofs.streams.Reads as streams
use Rattle.brachymel.proofs.brachymel_streams_row.Reads as c_streams_row
use Rattle.brachymel.proofs.brachymel_streams_number.Reads as c_streams_number
use Rattle.brachymel.proofs.brachymel_streams.Reads as c_streams

-- a call that reads or lists: the bandwidth code, both channels' bytes, the lent buffer, and then the answer and what the buffer holds
pub record Call : Type 0 where
  pub bandwidth : ℕ
  pub channel_1 : List ℕ
  pub channel_2 : List ℕ
  pub lent : List ℕ
  pub answer : Answer
  pub after : List ℕ

-- a call that writes: the bandwidth code, the words, both lent channels, and then the answer and what the channels hold
pub record WriteCall : Type 0 where
  pub bandwidth : ℕ
  pub words : List ℕ
  pub lent_1 : List ℕ
  pub lent_2 : List ℕ
  pub answer : Answer
  pub after_1 : List ℕ
  pub after_2 : List ℕ

-- a call of the program's text: its input, the lent buffer, and then how many bytes the text has and what the buffer holds
pub record TextCall : Type 0 where
  pub text : List ℕ
  pub lent : List ℕ
  pub bytes : ℕ
  pub after : List ℕ

-- a call about entries of a Trigger frame: the bandwidth code, the bytes given, the lent buffer, and then the answer and what the buffer holds
pub record EntryCall : Type 0 where
  pub bandwidth : ℕ
  pub given : List ℕ
  pub lent : List ℕ
  pub answer : Answer
  pub after : List ℕ

-- a call that compares: of each frame the bandwidth code and both channels' bytes, the lent buffer, and then the answer and what the buffer holds
pub record CompareCall : Type 0 where
  pub bandwidth_1 : ℕ
  pub first_1 : List ℕ
  pub first_2 : List ℕ
  pub bandwidth_2 : ℕ
  pub second_1 : List ℕ
  pub second_2 : List ℕ
  pub lent : List ℕ
  pub answer : Answer
  pub after : List ℕ

-- a call for the row of streams with a number: the users, the number, the lent buffer, and then the answer and what the buffer holds
pub record RowCall : Type 0 where
  pub users : ℕ
  pub number : ℕ
  pub lent : List ℕ
  pub answer : Answer
  pub after : List ℕ

-- a call for the number of such a row: the row, and then the answer
pub record NumberCall : Type 0 where
  pub row : List ℕ
  pub answer : Answer

abbrev call : ℕ → List ℕ → List ℕ → List ℕ → Answer → List ℕ → Call
call bw a b d r e = record { bandwidth = bw; channel_1 = a; channel_2 = b; lent = d; answer = r; after = e }

abbrev write_call : ℕ → List ℕ → List ℕ → List ℕ → Answer → List ℕ → List ℕ → WriteCall
write_call bw w a b r x y =
    record { bandwidth = bw; words = w; lent_1 = a; lent_2 = b; answer = r; after_1 = x; after_2 = y }

abbrev entry_call : ℕ → List ℕ → List ℕ → Answer → List ℕ → EntryCall
entry_call bw e d r x = record { bandwidth = bw; given = e; lent = d; answer = r; after = x }

abbrev compare_call : ℕ → List ℕ → List ℕ → ℕ → List ℕ → List ℕ → List ℕ → Answer → List ℕ → CompareCall
compare_call bw a b bw' a' b' d r x = record {
  bandwidth_1 = bw;
  first_1 = a;
  first_2 = b;
  bandwidth_2 = bw';
  second_1 = a';
  second_2 = b';
  lent = d;
  answer = r;
  after = x;
}

-- ---- the calls that each contract allows

-- `reader::read`, with lent words
pub data Reads : Call → Type 0 where
  reads : (κs : _) (a : _) (r : _) (s : _) → read.Post κs a r s
      → Reads (call a.0 a.1.0.now a.1.1.0.now a.1.1.1.0.now r s.1.1.1.0.now)

-- `listing::list`, with lent bytes
pub data Lists : Call → Type 0 where
  lists : (κs : _) (a : _) (r : _) (s : _) → list.Post κs a r s
      → Lists (call a.0 a.1.0.now a.1.1.0.now a.1.1.1.0.now r s.1.1.1.0.now)

-- `writer::write`
pub data Writes : WriteCall → Type 0 where
  writes : (κs : _) (a : _) (r : _) (s : _) → write.Post κs a r s
      → Writes (write_call a.0 a.1.0.now a.1.1.0.now a.1.1.1.0.now r s.1.1.0.now s.1.1.1.0.now)

-- `responding::respond`, with lent bytes
pub data Responds : TextCall → Type 0 where
  responds : (κs : _) (a : _) (r : _) (s : _) → respond.Post κs a r s
      → Responds (record { text = a.0.now; lent = a.1.0.now; bytes = r; after = s.1.0.now })

-- from C: `brachymel_read`, `brachymel_list` and `brachymel_write`, with lent bytes and the words as bytes
pub data CReads : Call → Type 0 where
  c_reads : (κs : _) (a : _) (r : _) (s : _) → c_read.Post κs a r s
      → CReads (call a.0 a.1.0.now a.1.1.0.now a.1.1.1.0.now r s.1.1.1.0.now)

pub data CLists : Call → Type 0 where
  c_lists : (κs : _) (a : _) (r : _) (s : _) → c_list.Post κs a r s
      → CLists (call a.0 a.1.0.now a.1.1.0.now a.1.1.1.0.now r s.1.1.1.0.now)

pub data CWrites : WriteCall → Type 0 where
  c_writes : (κs : _) (a : _) (r : _) (s : _) → c_write.Post κs a r s
      → CWrites (write_call a.0 a.1.0.now a.1.1.0.now a.1.1.1.0.now r s.1.1.0.now s.1.1.1.0.now)

-- entries of a Trigger frame, from Rattle or from C: an entry read, a record written, the overlaps of a list
pub data EntryCallReads : EntryCall → Type 0 where
  entry_reads : (κs : _) (a : _) (r : _) (s : _) → trigger_read.Post κs a r s
      → EntryCallReads (entry_call a.0 a.1.0.now a.1.1.0.now r s.1.1.0.now)
  c_entry_reads : (κs : _) (a : _) (r : _) (s : _) → c_trigger_read.Post κs a r s
      → EntryCallReads (entry_call a.0 a.1.0.now a.1.1.0.now r s.1.1.0.now)

pub data EntryCallWrites : EntryCall → Type 0 where
  entry_writes : (κs : _) (a : _) (r : _) (s : _) → trigger_write.Post κs a r s
      → EntryCallWrites (entry_call a.0 a.1.0.now a.1.1.0.now r s.1.1.0.now)
  c_entry_writes : (κs : _) (a : _) (r : _) (s : _) → c_trigger_write.Post κs a r s
      → EntryCallWrites (entry_call a.0 a.1.0.now a.1.1.0.now r s.1.1.0.now)

pub data Overlaps : EntryCall → Type 0 where
  overlaps : (κs : _) (a : _) (r : _) (s : _) → trigger_overlaps.Post κs a r s
      → Overlaps (entry_call a.0 a.1.0.now a.1.1.0.now r s.1.1.0.now)
  c_overlaps : (κs : _) (a : _) (r : _) (s : _) → c_trigger_overlaps.Post κs a r s
      → Overlaps (entry_call a.0 a.1.0.now a.1.1.0.now r s.1.1.0.now)

-- two frames compared, from Rattle or from C; and the program's text of two captures, `comparing::respond`
pub data Compares : CompareCall → Type 0 where
  compares : (κs : _) (a : _) (r : _) (s : _) → compare.Post κs a r s
      → Compares (compare_call a.0 a.1.0.now a.1.1.0.now a.1.1.1.0 a.1.1.1.1.0.now a.1.1.1.1.1.0.now
      a.1.1.1.1.1.1.0.now r s.1.1.1.1.1.1.0.now)
  c_compares : (κs : _) (a : _) (r : _) (s : _) → c_compare.Post κs a r s
      → Compares (compare_call a.0 a.1.0.now a.1.1.0.now a.1.1.1.0 a.1.1.1.1.0.now a.1.1.1.1.1.0.now
      a.1.1.1.1.1.1.0.now r s.1.1.1.1.1.1.0.now)

pub data CompareResponds : TextCall → Type 0 where
  compare_responds : (κs : _) (a : _) (r : _) (s : _) → compare_respond.Post κs a r s
      → CompareResponds (record { text = a.0.now; lent = a.1.0.now; bytes = r; after = s.1.0.now })

-- spatial streams, from Rattle or from C: the row with a number, the number of a row, the streams of a frame's User fields
abbrev row_call : ℕ → ℕ → List ℕ → Answer → List ℕ → RowCall
row_call users number d r x = record { users = users; number = number; lent = d; answer = r; after = x }

pub data PutsRow : RowCall → Type 0 where
  puts_row : (κs : _) (a : _) (r : _) (s : _) → put_row.Post κs a r s → PutsRow (row_call a.0 a.1.0 a.1.1.0.now r s.1.1.0.now)
  c_puts_row : (κs : _) (a : _) (r : _) (s : _) → c_streams_row.Post κs a r s
      → PutsRow (row_call a.0 a.1.0 a.1.1.0.now r s.1.1.0.now)

pub data GivesNumber : NumberCall → Type 0 where
  gives_number : (κs : _) (a : _) (r : _) (s : _) → number_of_row.Post κs a r s → GivesNumber (record { row = a.0.now; answer = r })
  c_gives_number : (κs : _) (a : _) (r : _) (s : _) → c_streams_number.Post κs a r s → GivesNumber (record { row = a.0.now; answer = r })

pub data GivesStreams : Call → Type 0 where
  gives_streams : (κs : _) (a : _) (r : _) (s : _) → streams.Post κs a r s
      → GivesStreams (call a.0 a.1.0.now a.1.1.0.now a.1.1.1.0.now r s.1.1.1.0.now)
  c_gives_streams : (κs : _) (a : _) (r : _) (s : _) → c_streams.Post κs a r s
      → GivesStreams (call a.0 a.1.0.now a.1.1.0.now a.1.1.1.0.now r s.1.1.1.0.now)
