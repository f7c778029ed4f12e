-- The first demand holds.
use mathlib.Core.Path.{◌≡◌, ◌∙◌, ap}
use Prim.Native.Nat.{◌/◌}
use lib.ListN.{length}
use Rattle.answer.specs.Order.{Judged}
use Rattle.answer.specs.declared.Answer.{Answer}
use Rattle.frame_words.specs.Words.{word_count}
use Rattle.reader.specs.Table.{read_numbers, read_checks}
use Rattle.reader.proofs.Exactly as reading
use Rattle.reader.proofs.Agree as reader
use Rattle.writer.specs.Worked.{the_bytes}
use Rattle.writer.specs.Result.{write_numbers, write_checks}
use Rattle.writer.proofs.Exactly as writing
use Rattle.writer.proofs.Agree as writer
use Rattle.listed.specs.Listing.{listing, list_numbers, list_checks}
use Rattle.listing.proofs.Judged as listed
use Rattle.word_bytes.specs.Bytes.{words_in}
use Rattle.brachymel.specs.Bytes.{bytes_checks}
use Rattle.brachymel.proofs.Judged as entries
use Rattle.brachymel.proofs.Agree as library
use Rattle.stream_rows.specs.Result.{row_numbers, row_checks, number_numbers, number_checks, number_of}
use Rattle.stream_rows.proofs.Judged as rows
use Rattle.streams.specs.Result.{fields, streams_numbers, streams_checks}
use Rattle.streams.proofs.Judged as streamed
use Rattle.claims.specs.Calls.{RowCall, NumberCall, PutsRow, GivesNumber, GivesStreams}
use Rattle.claims.specs.Calls.{Call, WriteCall, Reads, reads, Lists, lists, Writes, writes, CReads, c_reads, CLists, c_lists, CWrites, c_writes}
use Rattle.claims.specs.First.{First}
use Rattle.claims.proofs.Given.{row_gives, number_gives, streams_give}

-- ---- each answer is judged
read_judged : (c : Call) → Reads c
    → Judged read_numbers (read_checks c.bandwidth c.channel_1 c.channel_2 (length c.lent))
    (word_count c.bandwidth c.channel_1 c.channel_2) c.answer
read_judged c (reads κs a r s p) = rw p.0 (reading.read_judged a.0 a.1.0.now a.1.1.0.now (length a.1.1.1.0.now))

write_judged : (c : WriteCall) → Writes c
    → Judged write_numbers (write_checks c.bandwidth c.words (length c.lent_1) (length c.lent_2))
    (the_bytes c.bandwidth c.words) c.answer
write_judged c (writes κs a r s p) =
    rw p.0 (writing.write_judged a.0 a.1.0.now (length a.1.1.0.now) (length a.1.1.1.0.now))

list_judged : (c : Call) → Lists c
    → Judged list_numbers (list_checks c.bandwidth c.channel_1 c.channel_2 (length c.lent))
    (length (listing c.bandwidth c.channel_1 c.channel_2)) c.answer
list_judged c (lists κs a r s p) = rw p.0 (listed.list_judged a.0 a.1.0.now a.1.1.0.now (length a.1.1.1.0.now))

c_read_judged : (c : Call) → CReads c
    → Judged read_numbers (read_checks c.bandwidth c.channel_1 c.channel_2 (length c.lent / 4))
    (word_count c.bandwidth c.channel_1 c.channel_2) c.answer
c_read_judged c (c_reads κs a r s p) =
    rw p.0 (reading.read_judged a.0 a.1.0.now a.1.1.0.now (length a.1.1.1.0.now / 4))

c_write_judged : (c : WriteCall) → CWrites c
    → Judged write_numbers (bytes_checks c.bandwidth c.words (length c.lent_1) (length c.lent_2))
    (the_bytes c.bandwidth (words_in c.words)) c.answer
c_write_judged c (c_writes κs a r s p) =
    rw p.0 (entries.write_judged a.0 a.1.0.now (length a.1.1.0.now) (length a.1.1.1.0.now))

c_list_judged : (c : Call) → CLists c
    → Judged list_numbers (list_checks c.bandwidth c.channel_1 c.channel_2 (length c.lent))
    (length (listing c.bandwidth c.channel_1 c.channel_2)) c.answer
c_list_judged c (c_lists κs a r s p) =
    rw p.0 (listed.list_judged a.0 a.1.0.now a.1.1.0.now (length a.1.1.1.0.now))

row_judged : (c : RowCall) → PutsRow c → Judged row_numbers (row_checks c.users c.number (length c.lent)) c.users c.answer
row_judged c h = rw (row_gives c h).0 (rows.row_judged c.users c.number (length c.lent))

number_judged : (c : NumberCall) → GivesNumber c → Judged number_numbers (number_checks c.row) (number_of c.row) c.answer
number_judged c h = rw (number_gives c h) (rows.number_judged c.row)

streams_judged : (c : Call) → GivesStreams c
    → Judged streams_numbers (streams_checks c.bandwidth c.channel_1 c.channel_2 (length c.lent))
    (fields c.bandwidth c.channel_1 c.channel_2) c.answer
streams_judged c h = rw (streams_give c h).0 (streamed.streams_judged c.bandwidth c.channel_1 c.channel_2 (length c.lent))

-- ---- a refusal keeps
row_kept : (c : RowCall) → PutsRow c → (c.answer.number ≡ 0 → ⊥) → c.after ≡ c.lent
row_kept c h n =
    (row_gives c h).1 ∙ rows.row_kept c.users c.number c.lent (λ e. n (ap (λ (z : Answer). z.number) (row_gives c h).0 ∙ e))

streams_kept : (c : Call) → GivesStreams c → (c.answer.number ≡ 0 → ⊥) → c.after ≡ c.lent
streams_kept c h n =
    (streams_give c h).1
    ∙ streamed.streams_kept c.bandwidth c.channel_1 c.channel_2 c.lent (λ e. n (ap (λ (z : Answer). z.number) (streams_give c h).0 ∙ e))

read_kept : (c : Call) → Reads c → (c.answer.number ≡ 0 → ⊥) → c.after ≡ c.lent
read_kept c (reads κs a r s p) = reader.read_keeps κs a r s p

write_kept : (c : WriteCall) → Writes c → (c.answer.number ≡ 0 → ⊥) → (c.after_1 ≡ c.lent_1) × (c.after_2 ≡ c.lent_2)
write_kept c (writes κs a r s p) = writer.write_keeps κs a r s p

list_kept : (c : Call) → Lists c → (c.answer.number ≡ 0 → ⊥) → c.after ≡ c.lent
list_kept c (lists κs a r s p) = listed.list_keeps κs a r s p

c_read_kept : (c : Call) → CReads c → (c.answer.number ≡ 0 → ⊥) → c.after ≡ c.lent
c_read_kept c (c_reads κs a r s p) = library.read_keeps κs a r s p

c_write_kept : (c : WriteCall) → CWrites c → (c.answer.number ≡ 0 → ⊥) → (c.after_1 ≡ c.lent_1) × (c.after_2 ≡ c.lent_2)
c_write_kept c (c_writes κs a r s p) = entries.write_keeps κs a r s p

c_list_kept : (c : Call) → CLists c → (c.answer.number ≡ 0 → ⊥) → c.after ≡ c.lent
c_list_kept c (c_lists κs a r s p) = entries.list_keeps κs a r s p

pub first_demand : First
first_demand = record {
  read_ends = read_judged;
  write_ends = write_judged;
  list_ends = list_judged;
  c_read_ends = c_read_judged;
  c_write_ends = c_write_judged;
  c_list_ends = c_list_judged;
  row_ends = row_judged;
  number_ends = number_judged;
  streams_end = streams_judged;
  read_asks_nothing = λ κs a. tt;
  write_asks_nothing = λ κs a. tt;
  list_asks_nothing = λ κs a. tt;
  respond_asks_nothing = λ κs a. tt;
  c_read_asks_nothing = λ κs a. tt;
  c_write_asks_nothing = λ κs a. tt;
  c_list_asks_nothing = λ κs a. tt;
  row_asks_nothing = λ κs a. tt;
  number_asks_nothing = λ κs a. tt;
  streams_ask_nothing = λ κs a. tt;
  c_row_asks_nothing = λ κs a. tt;
  c_number_asks_nothing = λ κs a. tt;
  c_streams_ask_nothing = λ κs a. tt;
  read_keeps = read_kept;
  write_keeps = write_kept;
  list_keeps = list_kept;
  c_read_keeps = c_read_kept;
  c_write_keeps = c_write_kept;
  c_list_keeps = c_list_kept;
  row_keeps = row_kept;
  streams_keep = streams_kept;
}
