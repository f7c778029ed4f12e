-- Engine: pieces as numbers. The contracts of the code cite it; nobody has to believe it: `proofs/Codes.antt`.
use Rattle.std.specs.Prelude.{Bool, cond, not, ◌&&◌, List, [], ◌∷◌, ℕ, ◌+◌, ◌-◌, ◌*◌, ◌/◌, ◌%◌, ltb, eqb, get_or}
use Rattle.resource.specs.declared.Size.TheVariants.{S26, S52, S106, S242, S484, S996, S2x996}
use Rattle.resource.specs.declared.Piece.{Piece}
use Rattle.resource.specs.declared.Piece.TheVariants.{Part, With26}
use Rattle.resource.specs.declared.Run.{Run}
use Rattle.resource.specs.Values.{own_pieces}
use Rattle.resource.specs.Index.{is_piece, from_positions}
use Rattle.resource.specs.Engine.{no_piece, run_of, offset26, offset52, offset106, narrow26, narrow52, narrow106}

-- ---- codes
abbrev pub code_of : Piece → ℕ
code_of (Part S26 i) = i
code_of (Part S52 i) = 16 + i
code_of (Part S106 i) = 32 + i
code_of (With26 i) = 48 + i
code_of (Part S242 i) = 64 + i
code_of (Part S484 i) = 0
code_of (Part S996 i) = 0
code_of (Part S2x996 i) = 0

-- seven bits each, the first lowest
abbrev pub packed : List Piece → ℕ
packed [] = 0
packed (x ∷ xs) = code_of x + 128 * packed xs

unfoldable pub codes_of : ℕ → ℕ
codes_of v = packed (own_pieces v)

-- back
unfoldable pub piece_of : ℕ → Piece
piece_of c =
    cond (eqb (c / 16) 0) (Part S26 (c % 16))
    (cond (eqb (c / 16) 1) (Part S52 (c % 16))
    (cond (eqb (c / 16) 2) (Part S106 (c % 16))
    (cond (eqb (c / 16) 3) (With26 (c % 16)) (cond (eqb (c / 16) 4) (Part S242 (c % 16)) no_piece))))

-- it is a piece's that lies in one position
unfoldable pub is_code : ℕ → Bool
is_code c = is_piece (piece_of c) && eqb (from_positions (piece_of c)) 1

-- ---- subcarriers
-- n from a on; two such runs
abbrev pub one : ℕ → ℕ → ℕ
one a n = a + 256 * n

abbrev pub two : ℕ → ℕ → ℕ → ℕ → ℕ
two a n b m = one a n + 65536 * one b m

abbrev pub wide_word : Piece → ℕ
wide_word (Part S26 i) = one (offset26 (i - 1)) 26
wide_word (Part S52 i) = one (offset52 (i - 1)) 52
wide_word (Part S106 i) = one (offset106 (i - 1)) 106
wide_word (Part S242 i) = one 0 242
wide_word (With26 i) = cond (eqb (i - 1) 0) (two 1 106 108 26) (two 108 26 135 106)
wide_word (Part S484 i) = 0
wide_word (Part S996 i) = 0
wide_word (Part S2x996 i) = 0

abbrev pub narrow_word : Piece → ℕ
narrow_word (Part S26 i) = cond (eqb (i - 1) 4) (two 112 13 132 13) (one (narrow26 (i - 1)) 26)
narrow_word (Part S52 i) = one (narrow52 (i - 1)) 52
narrow_word (Part S106 i) = one (narrow106 (i - 1)) 106
narrow_word (Part S242 i) = two 6 121 130 121
narrow_word (With26 i) = cond (eqb (i - 1) 0) (two 6 119 132 13) (two 112 13 132 119)
narrow_word (Part S484 i) = 0
narrow_word (Part S996 i) = 0
narrow_word (Part S2x996 i) = 0

unfoldable pub wide_at : ℕ → ℕ
wide_at c = cond (is_code c) (wide_word (piece_of c)) 0

unfoldable pub narrow_at : ℕ → ℕ
narrow_at c = cond (is_code c) (narrow_word (piece_of c)) 0

unfoldable pub word_at : ℕ → ℕ → ℕ
word_at n c = cond (eqb n 1) (narrow_at c) (wide_at c)

-- the runs that it says, from e on
unfoldable pub runs_by : ℕ → ℕ → List Run
runs_by e w =
    run_of (e + w % 256) (w / 256 % 256)
    ∷ cond (eqb (w / 65536) 0) [] (run_of (e + w / 65536 % 256) (w / 65536 / 256) ∷ [])

-- ---- the index
unfoldable pub each_of : ℕ → ℕ
each_of k = get_or (9 ∷ 4 ∷ 2 ∷ 2 ∷ 1 ∷ []) k 0

unfoldable pub index_at : ℕ → ℕ → ℕ
index_at q c = each_of (c / 16) * q + c % 16 + cond (eqb (c / 16) 0) (q / 2) 0

-- ---- the pieces of one run
unfoldable pub is_single : ℕ → ℕ → Bool
is_single n c = cond (eqb n 1) (not (eqb c 5) && ltb c 48) (not (eqb (c / 16) 3))

-- their places in one list
unfoldable pub place_of : ℕ → ℕ → ℕ
place_of n c = c - 7 * (c / 16) + cond (eqb n 1) 40 0

-- from the lowest byte: the first subcarrier, three bytes of the name, the last subcarrier, twice the index's step from position to position, the
-- index in the first one, the name's length
unfoldable pub entry_of : ℕ → ℕ
entry_of d =
    get_or
    (0 ∷ 144417665446195713 ∷ 144699252092056091 ∷ 144980847327851063
    ∷ 145262433973711441 ∷ 145544024914539116 ∷ 145825615855366791 ∷ 146107202501227169
    ∷ 146388797737022141 ∷ 146670384382882519 ∷ 144405682487178497 ∷ 144687389392123191
    ∷ 144969207966217607 ∷ 145250914871162301 ∷ 0 ∷ 0
    ∷ 0 ∷ 0 ∷ 0 ∷ 216459111312666881
    ∷ 216741161814995335 ∷ 0 ∷ 0 ∷ 0
    ∷ 0 ∷ 0 ∷ 0 ∷ 0
    ∷ 0 ∷ 0 ∷ 0 ∷ 0
    ∷ 0 ∷ 0 ∷ 0 ∷ 0
    ∷ 0 ∷ 216457492043149824 ∷ 0 ∷ 0
    ∷ 0 ∷ 144417691215999495 ∷ 144699277861859873 ∷ 144980868802687548
    ∷ 145262455448547926 ∷ 0 ∷ 145825658805039761 ∷ 146107245450900139
    ∷ 146388836391727814 ∷ 146670423037588192 ∷ 144405708256982279 ∷ 144687410866959676
    ∷ 144969250915890577 ∷ 145250953525867974 ∷ 0 ∷ 0
    ∷ 0 ∷ 0 ∷ 0 ∷ 216459132787503366
    ∷ 216741204764668305 ∷ [])
    d 0

unfoldable pub entry_at : ℕ → ℕ → ℕ
entry_at n c = entry_of (place_of n c)
