-- A slab: a header, a byte for each block, a mark for each slot, the slots' heads, and the slots' data.
use Rattle.std.specs.Prelude.{ℕ, ◌+◌, ◌*◌, ◌==◌, Bool, List, take, drop, slice_index}
use Rattle.quorum_rules.specs.Limits.{Numbers, share_of}
pub use Rattle.slab_layout.specs.declared.shape.Shape.{Shape}

-- the digests of all fragments, and one fragment
abbrev pub data_len : Shape → ℕ
data_len s = 32 * s.nodes + s.share

-- where the byte stands that tells whether the node answers for block b
abbrev pub answer_at : Shape → ℕ → ℕ
answer_at s b = 4096 + b

-- where the mark of slot i stands, its head and its data
abbrev pub mark_at : Shape → ℕ → ℕ
mark_at s i = 4096 + s.blocks + i

abbrev pub head_at : Shape → ℕ → ℕ
head_at s i = 4096 + s.blocks + s.count + i * 72

abbrev pub data_at : Shape → ℕ → ℕ
data_at s i = 4096 + s.blocks + 73 * s.count + i * data_len s

-- where the slab ends
abbrev pub slab_len : Shape → ℕ
slab_len s = 4096 + s.blocks + 73 * s.count + s.count * data_len s

-- so many bytes from a place on
abbrev pub part : List ℕ → ℕ → ℕ → List ℕ
part bytes at n = take n (drop at bytes)

-- a slot counts where its mark is 1, and a block is answered for where its byte is 1
abbrev pub is_marked : Shape → List ℕ → ℕ → Bool
is_marked s bytes i = slice_index bytes (mark_at s i) == 1

abbrev pub answers_for : Shape → List ℕ → ℕ → Bool
answers_for s bytes b = slice_index bytes (answer_at s b) == 1

-- the slab of a node of this cluster: two slots for each block, and 64 more
abbrev pub shape_of : Numbers → Shape
shape_of c = record { blocks = c.blocks; count = 2 * c.blocks + 64; nodes = c.n; share = share_of c }
