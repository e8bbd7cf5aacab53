-- What the program says.
use Rattle.std.specs.Prelude.{ℕ, List, ◌++◌, codes, decimal}
use Rattle.quorum_rules.specs.declared.ConfigFault.{ConfigFault}
use Rattle.quorum_rules.specs.declared.ConfigFault.TheVariants.{NodesOutOfRange, LiarsAboveFaults, QuorumLow, QuorumHigh, ShareCount, SizeOutOfRange, BlocksOutOfRange}
use Rattle.file_disk.specs.declared.refusal.FileRefusal.{FileRefusal}
use Rattle.file_disk.specs.declared.refusal.FileRefusal.TheVariants.{Missing, NotPlain, Locked, Replaced, TooLong, NoMemory as NoRoom, Fault as SystemFault}
use Rattle.store_words.specs.declared.refusal.BadWords.{BadWords}
use Rattle.store_words.specs.declared.refusal.BadWords.TheVariants.{NoCommand, WrongCount, BadNumber, BadCluster, NoNode, NoPlace}
use Rattle.store_words.specs.declared.refusal.Refusal.{Refusal}
use Rattle.store_words.specs.declared.refusal.Refusal.TheVariants.{BadWords as Words, NoText, NoMemory, NoStore, TooManyDown, Unread}
use Rattle.store_words.specs.declared.down.Down.{Down}
use Rattle.store_words.specs.declared.down.Down.TheVariants.{Gone, NoCluster, BadLine, OtherStore, OtherNode, Journal, Damaged, Fault, NoMemory as Unopened}
use Rattle.store_words.specs.declared.notice.Notice.{Notice}
use Rattle.store_words.specs.declared.notice.Notice.TheVariants.{Down as Lost, Looked, Unsettled}
use Rattle.store_words.specs.declared.lines.NodeLine.{NodeLine}
use Rattle.store_words.specs.declared.lines.NodeLine.TheVariants.{Up, Down as IsDown}
use Rattle.store_words.specs.declared.lines.ScrubLine.{ScrubLine}
use Rattle.store_words.specs.declared.lines.ScrubLine.TheVariants.{Up as Scrubbed, Down as WasDown}
use Rattle.store_words.specs.declared.lines.Found.{Found}
use Rattle.store_words.specs.declared.lines.JournalBytes.{JournalBytes}

-- the rule of clusters that numbers break
abbrev pub fault_text : ConfigFault → List ℕ
fault_text NodesOutOfRange = codes "N is 1 to 16"
fault_text LiarsAboveFaults = codes "B is at most T"
fault_text QuorumLow = codes "QC is at least T + B + 1"
fault_text QuorumHigh = codes "QC is at most N - T - B"
fault_text ShareCount = codes "M is 1 to QC - T"
fault_text SizeOutOfRange = codes "SIZE is 1 to 65536"
fault_text BlocksOutOfRange = codes "BLOCKS is 1 to 268435456"

-- why words are refused
abbrev pub words_text : BadWords → List ℕ
words_text NoCommand = codes "no such command"
words_text WrongCount = codes "words are missing, or there are too many"
words_text BadNumber = codes "a number is wanted where none stands"
words_text (BadCluster fault) = codes "the numbers make no cluster: " ++ fault_text fault
words_text NoNode = codes "there is no such node"
words_text NoPlace = codes "renew needs the directory of the node, not -"

-- why a command isn't done
abbrev pub refusal_text : Refusal → List ℕ
refusal_text (Words why) = codes "pasis_store: " ++ words_text why ++ codes "; pasis_store --help tells the words"
refusal_text NoText = codes "pasis_store: the words are no text"
refusal_text NoMemory = codes "pasis_store: no memory"
refusal_text (NoStore folders) = codes "pasis_store: no store of " ++ decimal folders ++ codes " directories"
refusal_text (TooManyDown down most) = codes "pasis_store: " ++ (decimal down ++ (codes " nodes are down, and " ++ (decimal most ++ codes " may be")))
refusal_text (Unread blocks) = codes "pasis_store: " ++ (decimal blocks ++ codes " blocks couldn't be read or written again")

-- why a journal's file wasn't opened
abbrev pub file_text : FileRefusal → List ℕ
file_text Missing = codes "no file stands there"
file_text NotPlain = codes "what stands there is no plain file"
file_text Locked = codes "another process has the file open"
file_text Replaced = codes "the file was replaced while it was opened"
file_text TooLong = codes "the file is too long"
file_text NoRoom = codes "no memory for the file's bytes"
file_text SystemFault = codes "the system failed"

-- why a node is down
abbrev pub down_text : Down → List ℕ
down_text Gone = codes "it is said to be gone"
down_text NoCluster = codes "its file cluster can't be read"
down_text (BadLine line) = codes "line " ++ decimal line ++ codes " of its file cluster is wrong"
down_text OtherStore = codes "it is of another store"
down_text (OtherNode node) = codes "it is node " ++ decimal node ++ codes ", and stands in another's place"
down_text (Journal why) = codes "its journal can't be opened: " ++ file_text why
down_text (Damaged slot) = codes "slot " ++ decimal slot ++ codes " of its journal isn't one that it wrote"
down_text Fault = codes "its disk failed"
down_text Unopened = codes "no memory for its journal"

-- what is said while a command is done
abbrev pub notice_text : Notice → List ℕ
notice_text (Lost node why) = codes "pasis_store: node " ++ (decimal node ++ (codes " is down: " ++ down_text why))
notice_text (Looked done blocks) = codes "pasis_store: " ++ (decimal done ++ (codes " of " ++ (decimal blocks ++ codes " blocks")))
notice_text (Unsettled blocks) =
    codes "pasis_store: " ++ (decimal blocks ++ codes " blocks aren't settled: a write that was cut off may take place there yet")

-- a node's line of `status`
abbrev pub node_text : NodeLine → List ℕ
node_text (Up node versions bytes) =
    codes "node " ++ (decimal node ++ (codes " up " ++ (decimal versions ++ (codes " versions, " ++ (decimal bytes ++ codes " bytes")))))
node_text (IsDown node why) = codes "node " ++ decimal node ++ codes " down: " ++ down_text why

-- what was found of it
abbrev pub found_text : Found → List ℕ
found_text found =
    decimal found.stale ++ (codes " stale, " ++ (decimal found.wrong ++ (codes " false, " ++ (decimal found.unfinished ++ (codes " unfinished, "
    ++ (decimal found.restored ++ codes " restored"))))))

abbrev pub bytes_text : JournalBytes → List ℕ
bytes_text bytes = decimal bytes.was ++ (codes " bytes before, " ++ (decimal bytes.is ++ codes " after"))

-- a node's line of `scrub`
abbrev pub scrub_text : ScrubLine → List ℕ
scrub_text (Scrubbed node found bytes) = codes "node " ++ (decimal node ++ (codes " up " ++ (found_text found ++ (codes ", " ++ bytes_text bytes))))
scrub_text (WasDown node) = codes "node " ++ decimal node ++ codes " down"

-- with the end of the line
abbrev pub node_line : NodeLine → List ℕ
node_line line = node_text line ++ codes "\n"

abbrev pub scrub_line : ScrubLine → List ℕ
scrub_line line = scrub_text line ++ codes "\n"
