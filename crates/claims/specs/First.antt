-- The first demand.
--
-- "Any bytes, any bandwidth code, any buffer: each call ends with an acceptance or one numbered refusal from the table in document 01, in the
-- order set there. No caller checks anything first. A refused call writes nothing into the caller's buffers."
--
-- Calls are `Calls.antt`'s: all that the contracts allow. What a function asks of its caller is `Asked`. That every call ends is part of what is
-- proved of every function.
use Rattle.std.specs.Prelude.{◌≡◌, ◌/◌, length}
use Rattle.answer.specs.Order.{Judged}
use Rattle.frame_words.specs.Words.{word_count}
use Rattle.reader.specs.Table.{read_numbers, read_checks}
use Rattle.reader.proofs.read.Reads as read
use Rattle.writer.specs.Worked.{the_bytes}
use Rattle.writer.specs.Result.{write_numbers, write_checks}
use Rattle.writer.proofs.write.Reads as write
use Rattle.listed.specs.Listing.{listing, list_numbers, list_checks}
use Rattle.listing.proofs.list.Reads as list
use Rattle.responding.proofs.respond.Reads as respond
use Rattle.word_bytes.specs.Bytes.{words_in}
use Rattle.brachymel.specs.Bytes.{bytes_checks}
use Rattle.brachymel.proofs.brachymel_read.Reads as c_read
use Rattle.brachymel.proofs.brachymel_write.Reads as c_write
use Rattle.brachymel.proofs.brachymel_list.Reads as c_list
use Rattle.stream_rows.specs.Result.{row_numbers, row_checks, number_numbers, number_checks, number_of}
use Rattle.stream_rows.proofs.put_row.Reads as put_row
use Rattle.stream_rows.proofs.number_of.Reads as number_of_row
use Rattle.streams.specs.Result.{fields, streams_numbers, streams_checks}
use Rattle.streams.proofs.streams.Reads as streams
use Rattle.brachymel.proofs.brachymel_streams_row.Reads as c_streams_row
use Rattle.brachymel.proofs.brachymel_streams_number.Reads as c_streams_number
use Rattle.brachymel.proofs.brachymel_streams.Reads as c_streams
use Rattle.claims.specs.Calls.{Call, WriteCall, RowCall, NumberCall, Reads, Lists, Writes, CReads, CLists, CWrites}
use Rattle.claims.specs.Calls.{PutsRow, GivesNumber, GivesStreams}

pub record First : Type 1 where
  -- "each call ends with an acceptance or one numbered refusal from the table in document 01, in the order set there": `Judged`, by the rows 1 to
  -- 12 of the reader, 1, 13 and 14 of the writer, 1 to 11 and 23 of the listing
  pub read_ends : (c : Call) → Reads c
      → Judged read_numbers (read_checks c.bandwidth c.channel_1 c.channel_2 (length c.lent))
      (word_count c.bandwidth c.channel_1 c.channel_2) c.answer
  pub write_ends : (c : WriteCall) → Writes c
      → Judged write_numbers (write_checks c.bandwidth c.words (length c.lent_1) (length c.lent_2))
      (the_bytes c.bandwidth c.words) c.answer
  pub list_ends : (c : Call) → Lists c
      → Judged list_numbers (list_checks c.bandwidth c.channel_1 c.channel_2 (length c.lent))
      (length (listing c.bandwidth c.channel_1 c.channel_2)) c.answer
  -- from C: room in whole words, and 13 where the words' bytes are not whole words
  pub c_read_ends : (c : Call) → CReads c
      → Judged read_numbers (read_checks c.bandwidth c.channel_1 c.channel_2 (length c.lent / 4))
      (word_count c.bandwidth c.channel_1 c.channel_2) c.answer
  pub c_write_ends : (c : WriteCall) → CWrites c
      → Judged write_numbers (bytes_checks c.bandwidth c.words (length c.lent_1) (length c.lent_2))
      (the_bytes c.bandwidth (words_in c.words)) c.answer
  pub c_list_ends : (c : Call) → CLists c
      → Judged list_numbers (list_checks c.bandwidth c.channel_1 c.channel_2 (length c.lent))
      (length (listing c.bandwidth c.channel_1 c.channel_2)) c.answer
  -- of spatial streams (02, T-11), from Rattle and from C: 21 and 23 of a number, 21 of a row, 1 to 11, 21 and 23 of a frame
  pub row_ends : (c : RowCall) → PutsRow c → Judged row_numbers (row_checks c.users c.number (length c.lent)) c.users c.answer
  pub number_ends : (c : NumberCall) → GivesNumber c → Judged number_numbers (number_checks c.row) (number_of c.row) c.answer
  pub streams_end : (c : Call) → GivesStreams c
      → Judged streams_numbers (streams_checks c.bandwidth c.channel_1 c.channel_2 (length c.lent))
      (fields c.bandwidth c.channel_1 c.channel_2) c.answer
  -- "No caller checks anything first."
  pub read_asks_nothing : (κs : _) (a : _) → read.Asked κs a
  pub write_asks_nothing : (κs : _) (a : _) → write.Asked κs a
  pub list_asks_nothing : (κs : _) (a : _) → list.Asked κs a
  -- the program's whole text, of any input
  pub respond_asks_nothing : (κs : _) (a : _) → respond.Asked κs a
  pub c_read_asks_nothing : (κs : _) (a : _) → c_read.Asked κs a
  pub c_write_asks_nothing : (κs : _) (a : _) → c_write.Asked κs a
  pub c_list_asks_nothing : (κs : _) (a : _) → c_list.Asked κs a
  pub row_asks_nothing : (κs : _) (a : _) → put_row.Asked κs a
  pub number_asks_nothing : (κs : _) (a : _) → number_of_row.Asked κs a
  pub streams_ask_nothing : (κs : _) (a : _) → streams.Asked κs a
  pub c_row_asks_nothing : (κs : _) (a : _) → c_streams_row.Asked κs a
  pub c_number_asks_nothing : (κs : _) (a : _) → c_streams_number.Asked κs a
  pub c_streams_ask_nothing : (κs : _) (a : _) → c_streams.Asked κs a
  -- "A refused call writes nothing into the caller's buffers."
  pub read_keeps : (c : Call) → Reads c → (c.answer.number ≡ 0 → ⊥) → c.after ≡ c.lent
  pub write_keeps : (c : WriteCall) → Writes c → (c.answer.number ≡ 0 → ⊥) → (c.after_1 ≡ c.lent_1) × (c.after_2 ≡ c.lent_2)
  pub list_keeps : (c : Call) → Lists c → (c.answer.number ≡ 0 → ⊥) → c.after ≡ c.lent
  pub c_read_keeps : (c : Call) → CReads c → (c.answer.number ≡ 0 → ⊥) → c.after ≡ c.lent
  pub c_write_keeps : (c : WriteCall) → CWrites c → (c.answer.number ≡ 0 → ⊥) → (c.after_1 ≡ c.lent_1) × (c.after_2 ≡ c.lent_2)
  pub c_list_keeps : (c : Call) → CLists c → (c.answer.number ≡ 0 → ⊥) → c.after ≡ c.lent
  pub row_keeps : (c : RowCall) → PutsRow c → (c.answer.number ≡ 0 → ⊥) → c.after ≡ c.lent
  pub streams_keep : (c : Call) → GivesStreams c → (c.answer.number ≡ 0 → ⊥) → c.after ≡ c.lent
