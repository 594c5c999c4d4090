-- What an answer tells. Assumes nothing.
use Rattle.std.specs.Prelude.{ℕ, List, []}
use Rattle.payload.specs.declared.answer.Answer.{Answer}
use Rattle.payload.specs.declared.answer.Answer.TheVariants.{Linked, NotLinked, Node, Split, Counter, Root, Roots, Read}
use Rattle.payload.specs.declared.answer.Read.{Read as ReadT}
use Rattle.payload.specs.declared.answer.Read.TheVariants as read
use Rattle.payload.specs.declared.command.Kind.{Kind}
use Rattle.payload.specs.declared.command.Kind.TheVariants as kind
use Rattle.node.specs.Meanings.{link_of}
use Rattle.node.specs.Outcomes.{node_of, meta_of}
use Rattle.serialization.specs.Formats.{link_bytes, node_bytes, meta_bytes}
use Rattle.serialization.specs.Numbers.{number}

-- the bytes that it tells, if any
abbrev pub bytes_told : Answer → List ℕ
bytes_told (Linked p node) = p
bytes_told (NotLinked p fault) = p
bytes_told (Node p) = p
bytes_told (Split new node) = []
bytes_told (Counter p) = p
bytes_told (Root page) = []
bytes_told (Roots former p) = p
bytes_told (Read value) = []

-- the bytes that a value has that was read
abbrev pub bytes_read : ReadT → List ℕ
bytes_read (read.Counter n) = number n
bytes_read read.Free = []
bytes_read (read.Meta meta) = meta_bytes (meta_of meta)
bytes_read (read.Link link) = link_bytes (link_of link)
bytes_read (read.Node node) = node_bytes (node_of node)

-- the kind that it is of
abbrev pub kind_read : ReadT → Kind
kind_read (read.Counter n) = kind.Counter
kind_read read.Free = kind.Free
kind_read (read.Meta meta) = kind.Meta
kind_read (read.Link link) = kind.Link
kind_read (read.Node node) = kind.Node
