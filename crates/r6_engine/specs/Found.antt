-- What checks and repairs find, by class (md(4): a check reads every row of the array; the classes are Anvin's,
-- section 4).
use Rattle.std.specs.Prelude.{ℕ, ◌+◌, ◌-◌, ◌^◌, min}
use Rattle.r6_engine.specs.declared.runner.scrub.ScrubDone.{ScrubDone}
use Rattle.r6_engine.specs.declared.found.Found.{Found}

-- the rows of some class
abbrev pub classed_of : Found → ℕ
classed_of found = found.consistent + found.wrong_p + found.wrong_q + found.wrong_data + found.many

-- all rows
abbrev pub rows_of : Found → ℕ
rows_of found = classed_of found + found.skipped

-- what one pass over the rows of a shard found
abbrev pub found_in : ScrubDone → Found
found_in scrub = record {
  consistent = scrub.after.consistent - scrub.before.consistent;
  wrong_p = scrub.after.wrong_p - scrub.before.wrong_p;
  wrong_q = scrub.after.wrong_q - scrub.before.wrong_q;
  wrong_data = scrub.after.wrong_data - scrub.before.wrong_data;
  many = scrub.after.many - scrub.before.many;
  skipped = scrub.skipped;
  repaired = scrub.after.repaired - scrub.before.repaired;
}

-- a count has 64 bits
abbrev pub sum_of : ℕ → ℕ → ℕ
sum_of one other = min (one + other) (2 ^ 64 - 1)

-- what two shards found
abbrev pub found_by : Found → Found → Found
found_by one other = record {
  consistent = sum_of one.consistent other.consistent;
  wrong_p = sum_of one.wrong_p other.wrong_p;
  wrong_q = sum_of one.wrong_q other.wrong_q;
  wrong_data = sum_of one.wrong_data other.wrong_data;
  many = sum_of one.many other.many;
  skipped = sum_of one.skipped other.skipped;
  repaired = sum_of one.repaired other.repaired;
}
