-- A call of the program: its source and its sink before it and after it, and when a fault is told.
use Rattle.std.specs.Prelude.{ℕ, ◌≡◌, ◌≢◌, List, Option}
use Rattle.outside_io.specs.declared.source.Source.{Ghosts as SeenSource}
use Rattle.outside_io.specs.declared.sink.Sink.{Ghosts as SeenSink}
use Rattle.outside_io.specs.Causes.{Rose}
use Rattle.command_texts.specs.declared.status.Status.{Status}
use Rattle.command_texts.specs.declared.status.Status.TheVariants.{ReadFault, WriteFault}

-- a call: its source and its sink, before it and after it. The parameters are what contracts see of such a source and such a sink
pub record Call {S K : Type 0} (seen_source : SeenSource S) (seen_sink : SeenSink K) : Type 0 where
  pub source : S
  pub source_after : S
  pub sink : K
  pub sink_after : K

abbrev pub call_of : {S K : Type 0} → (seen_source : SeenSource S) (seen_sink : SeenSink K) → (source source_after : S) → (sink sink_after : K) → Call seen_source seen_sink
call_of seen_source seen_sink source source_after sink sink_after = record { source = source; source_after = source_after; sink = sink; sink_after = sink_after }

module _ {S K : Type 0} {seen_source : SeenSource S} {seen_sink : SeenSink K} where
  -- the bytes that the source has left, where it tells them
  abbrev pub left : Call seen_source seen_sink → Option (List ℕ)
  left call = seen_source.left call.source

  abbrev pub left_after : Call seen_source seen_sink → Option (List ℕ)
  left_after call = seen_source.left call.source_after

  -- the bytes that the sink took, where it tells them, and how many of them were flushed
  abbrev pub taken : Call seen_source seen_sink → Option (List ℕ)
  taken call = seen_sink.taken call.sink

  abbrev pub taken_after : Call seen_source seen_sink → Option (List ℕ)
  taken_after call = seen_sink.taken call.sink_after

  abbrev pub flushed : Call seen_source seen_sink → ℕ
  flushed call = seen_sink.flushed call.sink

  abbrev pub flushed_after : Call seen_source seen_sink → ℕ
  flushed_after call = seen_sink.flushed call.sink_after

  -- the source failed in the call, or the sink: its count of faults rose, or stands at the last value that it can have
  abbrev pub ReadFailed : Call seen_source seen_sink → Type 0
  ReadFailed call = Rose seen_source.last (seen_source.faults call.source) (seen_source.faults call.source_after)

  abbrev pub WriteFailed : Call seen_source seen_sink → Type 0
  WriteFailed call = Rose seen_sink.last (seen_sink.faults call.sink) (seen_sink.faults call.sink_after)

  -- neither did
  pub record IsCalm (call : Call seen_source seen_sink) : Type 0 where
    pub read : ReadFailed call → ⊥
    pub written : WriteFailed call → ⊥

  -- a status tells of a fault only where there was one, and each other status only where the count stayed
  pub record TellsFaults (status : Status) (call : Call seen_source seen_sink) : Type 0 where
    pub read_fault : status ≡ ReadFault → ReadFailed call
    pub write_fault : status ≡ WriteFault → WriteFailed call
    pub calm_source : status ≢ ReadFault → seen_source.faults call.source_after ≡ seen_source.faults call.source
    pub calm_sink : status ≢ WriteFault → seen_sink.faults call.sink_after ≡ seen_sink.faults call.sink
