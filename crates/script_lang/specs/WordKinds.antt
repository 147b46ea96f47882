-- The kinds of words. Their grammars are the cases of `value_of`.

pub data WordKind : Type 0 where
  -- MAP, NAME and TABLE
  Name : WordKind
  -- LOC
  Location : WordKind
  -- KIND: the kind of a map
  MapKind : WordKind
  -- TYPE: the type of a map's keys
  KeyType : WordKind
  -- KEY and LOW
  Key : WordKind
  -- HIGH: a key, or `max`
  High : WordKind
  -- TOKEN
  Token : WordKind
  -- [TOKEN], which may be absent: always the last word
  MaybeToken : WordKind
  -- C: the number of a connection
  Connection : WordKind
  -- ID: the number of a row
  RowNumber : WordKind
  -- BYTES: the value of a row
  RowValue : WordKind
  -- N and J: the number of a difference, and of a job
  Number : WordKind
  -- SIDE
  Side : WordKind
  -- BATCH: a number of rows
  Batch : WordKind
  -- the number of a session, in a line `session`
  Session : WordKind
