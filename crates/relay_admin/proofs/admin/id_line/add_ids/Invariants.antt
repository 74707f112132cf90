use Rattle.std.proofs.Common.{◌≡◌, ◌≤◌, ◌<◌, ◌+◌, ◌-◌, ◌++◌, ◌⊎◌, length, drop}
use Rattle.relay_admin.specs.admin.Reply.{ids_text}
use Rattle.relay_admin.specs.declared.admin.reply_bytes.TheConstants.{PIECE_BYTES}
use Rattle.relay_admin.proofs.admin.id_line.add_ids.Given as goal

abbrev pub invariant-loop-next : goal.invariant-loop-next
invariant-loop-next l = record {
  added : l.piece.bytes ++ ids_text (drop l.next l.ids)
      ≡ l.initial.piece.bytes ++ ids_text (drop l.initial.next l.ids);
  room : length l.piece.bytes < PIECE_BYTES;
  behind : l.initial.next ≤ l.next;
  grown : ((l.next ≡ l.initial.next) × (length l.piece.bytes ≡ length l.initial.piece.bytes))
      ⊎ (length l.initial.piece.bytes < length l.piece.bytes);
}

abbrev pub decreases-loop-next : goal.decreases-loop-next
decreases-loop-next l = length l.ids - l.next
