-- A handle may go to another thread, as a box of what lies behind it may.
use mir.Raw.{raw}
use denote.Memory.{lone}
use denote.Struct.Struct.{exits_of}
use denote.Struct.Owning.{shape, fields, to}
use denote.Param.Send.{IsSend, AllSend, owning_send, struct_send, sendable}
use Rattle.std.proofs.Crossing as heap
use Rattle.std_alloc.proofs.SendSync.{quiet, lies}
use Rattle.std_heap.proofs.Global.TheSendSync as handle
use Rattle.engine.specs.contracts.inbox.Inbox as Inbox
use Rattle.engine.proofs.inbox.Inbox.TheSendSync.{the_send as inbox}
use Rattle.bracha_c.specs.contracts.feeder_handle.FeederHandle.{the_row, the_type}

pub send : IsSend the_row
send =
    let all : AllSend (fields the_type) = (search sendable, (handle.the_field_send, tt)) in
    owning_send the_type all (λ d. (lies Inbox.the_row inbox d.at d.inbox, heap.frees.frees d.alloc (raw (lone Inbox.the_row.mir)) d.at))
    (λ k. quiet (to the_type) (exits_of k (fields the_type)) ((struct_send (shape the_type) all).leaving k))
