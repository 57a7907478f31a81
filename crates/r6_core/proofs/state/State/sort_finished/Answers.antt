use Rattle.std.proofs.Common.{◌≡◌, ◌≤◌, drop, length, refl, arith, rules}
use Rattle.std.proofs.lemmas.List.{length-drop}
use Rattle.std.proofs.lemmas.List.Sorted.{IsPermutation-refl}
use Rattle.r6_core.proofs.Sorted.{rising_few, same_state, sorted_rising, sorted_sound}
use Rattle.r6_core.proofs.state.State.sort_finished.Goals as goal

pub returns : goal.returns
returns c =
    let s = c.args.self.now in
    let sort = c.sort_behind.ensures in
    let q = c.sort_behind.new.queue in
    record {
      sound = sorted_sound s c.args.from q c.requires.sound c.requires.released c.requires.within sort.before sort.same sort.sorted sort.capacity;
      state = same_state s c.args.from q c.requires.sound c.requires.released c.requires.within sort.before sort.same sort.sorted sort.capacity;
      before = sort.before;
      same = sort.same;
      rising = sorted_rising s c.args.from q c.requires.sound c.requires.released c.requires.within sort.before sort.same sort.sorted sort.capacity;
      rest = refl;
    }

pub returns-then-len-from-le1 : goal.returns-then-len-from-le1
returns-then-len-from-le1 c =
    let s = c.args.self.now in
    let last = drop c.args.from s.replies.items in
    let few : length last ≤ 1 =
    let long = length-drop c.args.from s.replies.items in
    let all : c.len.result ≡ length s.replies.items = search rules in
    let test = c.if-len-from-le1.true in
    omega (arith, long, all, test) in
    record {
      sound = c.requires.sound;
      state = refl;
      before = refl;
      same = IsPermutation-refl last;
      rising = rising_few last few;
      rest = refl;
    }
