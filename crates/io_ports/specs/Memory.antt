-- The ports in memory, as their callers see them.
use Rattle.std.specs.Prelude.{ℕ, ◌-◌, List, ◌++◌, length, take, drop, min}
use Rattle.io_ports.specs.Faults.{next_count}

-- a source: the bytes to come, the most that one read gives, the numbers of the reads that fail, and the counts of reads and of faults
pub record Feed : Type 0 where
  pub left : List ℕ
  pub step : ℕ
  pub failing : List ℕ
  pub reads : ℕ
  pub faults : ℕ

-- how many bytes a read gives into a place of that size
abbrev pub given_count : Feed → ℕ → ℕ
given_count feed size = min (min feed.step size) (length feed.left)

-- after a read that gave n bytes
abbrev pub after_read : Feed → ℕ → Feed
after_read feed n = record {
  left = drop n feed.left;
  step = feed.step;
  failing = feed.failing;
  reads = next_count feed.reads;
  faults = feed.faults;
}

-- after a read that failed
abbrev pub after_failed_read : Feed → Feed
after_failed_read feed = record {
  left = feed.left;
  step = feed.step;
  failing = feed.failing;
  reads = next_count feed.reads;
  faults = next_count feed.faults;
}

-- a sink: the bytes taken, the room that is left, the most that one write takes, the numbers of the writes that fail,
-- and the counts of writes and of faults; a flush counts as a write
pub record Store : Type 0 where
  pub bytes : List ℕ
  pub room : ℕ
  pub step : ℕ
  pub failing : List ℕ
  pub writes : ℕ
  pub faults : ℕ

-- how many bytes a write takes of a piece of that size
abbrev pub taken_count : Store → ℕ → ℕ
taken_count store size = min (min store.step size) store.room

-- after a write that took the first n bytes of the piece
abbrev pub after_write : Store → List ℕ → ℕ → Store
after_write store piece n = record {
  bytes = store.bytes ++ take n piece;
  room = store.room - n;
  step = store.step;
  failing = store.failing;
  writes = next_count store.writes;
  faults = store.faults;
}

-- after a flush that passed
abbrev pub after_flush : Store → Store
after_flush store = record {
  bytes = store.bytes;
  room = store.room;
  step = store.step;
  failing = store.failing;
  writes = next_count store.writes;
  faults = store.faults;
}

-- after a write or a flush that failed
abbrev pub after_failed_write : Store → Store
after_failed_write store = record {
  bytes = store.bytes;
  room = store.room;
  step = store.step;
  failing = store.failing;
  writes = next_count store.writes;
  faults = next_count store.faults;
}
