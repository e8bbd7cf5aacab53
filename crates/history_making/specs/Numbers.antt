-- Which numbers a history has.
use Rattle.std.specs.Prelude.{◌<◌, ◌^◌, All}
use Rattle.history_making.specs.declared.entry.Entry.{Entry}
use Rattle.history_making.specs.declared.entry.Spent.{Spent}
use Rattle.history_making.specs.Books.{Book}

-- numbers of 32 bits, and a time of 64
pub record HasNumbers (e : Entry) : Type 0 where
  pub block : e.block < 2 ^ 32
  pub time : e.time < 2 ^ 64
  pub writer : e.writer < 2 ^ 32
  pub mark : e.mark < 2 ^ 32
  pub client : e.client < 2 ^ 32

-- a client's number of 32 bits
abbrev pub HasClient : Spent → Type 0
HasClient x = x.client < 2 ^ 32

-- each entry and each spent write has such numbers
pub record HaveNumbers (book : Book) : Type 0 where
  pub entries : All HasNumbers book.entries
  pub spent : All HasClient book.spent
