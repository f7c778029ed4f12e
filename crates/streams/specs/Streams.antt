-- The streams of a User field (02, T-11: "streams per station"), by its 22 bits, how many fields its resource has and which of them it is.
use Rattle.std.specs.Prelude.{Bool, not, cond, ◌&&◌, ℕ, ◌+◌, eqb, ltb, leb, length}
use Rattle.answer.specs.Lists.{at}
use Rattle.bits.specs.Pack.{unpack}
use Rattle.words.specs.Words.{alone_widths, shared_widths}
use Rattle.stream_rows.specs.Rows.{row_in}
use Rattle.stream_rows.specs.Worked.{the_rows}

-- 01, "Bandwidth and channels": "STA-ID 11", in either format
abbrev pub station_in : ℕ → ℕ
station_in f = at (unpack shared_widths f) 0

-- "STA-ID 11, MCS 4, reserved 1, NSS 4, .."
abbrev pub nss_in : ℕ → ℕ
nss_in f = at (unpack alone_widths f) 3

-- "STA-ID 11, MCS 4, coding 1, spatial configuration 6"
abbrev pub configuration_in : ℕ → ℕ
configuration_in f = at (unpack shared_widths f) 3

-- ---- of a STA-ID s, an NSS n and a configuration k, on a resource with so many users

-- 02, T-01: "STA-ID 2046 marks a resource that nobody has."
abbrev pub nobodys : ℕ → Bool
nobodys s = eqb s 2046

-- alone on its resource: one more than NSS; 0, not known, where that is over the eight of the published standard
unfoldable pub alone_streams : ℕ → ℕ
alone_streams n = cond (ltb n 8) (n + 1) 0

-- shared, the t-th of the users being this one: that entry of the row that the configuration names
unfoldable pub shared_streams : ℕ → ℕ → ℕ → ℕ
shared_streams users t k = at (row_in (the_rows users) k) t

-- "Where the resource has two or more fields over both channels together" it is shared; a field of nobody's has no streams
unfoldable pub streams_by : ℕ → ℕ → ℕ → ℕ → ℕ → ℕ
streams_by users t s n k = cond (nobodys s) 0 (cond (ltb users 2) (alone_streams n) (shared_streams users t k))

-- 21: "a number past the last row". A field of nobody's is not asked, nor one that is alone.
unfoldable pub none_by : ℕ → ℕ → ℕ → Bool
none_by users s k = not (nobodys s) && (leb 2 users && leb (length (the_rows users)) k)

-- ---- of a User field of 22 bits
unfoldable pub streams_of : ℕ → ℕ → ℕ → ℕ
streams_of users t f = streams_by users t (station_in f) (nss_in f) (configuration_in f)

unfoldable pub names_none : ℕ → ℕ → Bool
names_none users f = none_by users (station_in f) (configuration_in f)
