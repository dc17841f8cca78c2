-- A record with the first nine items of its lists: what the reader keeps of a line.
use Rattle.std.specs.Prelude.{ℕ, take}
use Rattle.rules.specs.Ledger.{Transaction}
use Rattle.rules.specs.Events.{Event, delivery, vote, change, read}
use Rattle.rules.specs.Records.{Record, opens, event, unreadable}

-- Eight are the most that a delivery may read or write: nine are too many, whatever follows.
abbrev pub items_kept : ℕ
items_kept = 9

abbrev pub short_delivery : Transaction → Transaction
short_delivery t =
    record {
      identity = t.identity;
      partitions = t.partitions;
      st = t.st;
      reads = take items_kept t.reads;
      writes = take items_kept t.writes;
    }

abbrev pub short_event : Event → Event
short_event (delivery t) = delivery (short_delivery t)
short_event (vote identity partition b) = vote identity partition b
short_event (change k) = change k
short_event (read key st) = read key st

unfoldable pub short_record : Record → Record
short_record (opens partitions own k) = opens partitions own k
short_record (event e) = event (short_event e)
short_record unreadable = unreadable
