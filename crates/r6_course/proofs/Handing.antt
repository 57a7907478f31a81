-- What stands on devices that the core hasn't looked at yet plays no part, so that their parts may be handed in.
use Rattle.std.proofs.Common.{◌≡◌, ◌≢◌, ℕ, ◌<◌, ◌≤◌, List, [], ◌∷◌, ◌++◌, Bool, true, false, if◌then◌else◌, inl, inr, refl, sym, ap, subst, ◌∙◌, arith, Option, Some, None}
use Rattle.std.proofs.lemmas.Bool.{cases_eq, cases_Bool, false≢true}
use Rattle.r6_world.specs.Tables.{put, put_in}
use Rattle.r6_layout.specs.PlainArray.{Block}
use Rattle.r6_world.specs.PlainArray.{Plain}
use Rattle.r6_world.specs.Layouts.{Layout, IsRowOf}
use Rattle.r6_world.specs.Registers.{Snapshot, Status, InSync, Lost, Rebuilding, Replacing, status_of, RegisterCall, Told as Answer, answer_to, register_after}
use Rattle.r6_world.specs.ShardStates.{Shard, Command, Transfer, Fetch, Store, Storing}
use Rattle.r6_world.specs.Steps.{Event, Deliver, Good, Error, Read_error, Look, Take_call, Told, Step}
use Rattle.r6_world.specs.Worlds.{World, Devices, Happening, Core, Perform, Tell, Outside, Moment, Possible, MayCome, IsAnswer, as_made, Run, happened, next, given, performed_on, broken_by, slot_at_start}
use Rattle.r6_world.specs.Laws.{IsByAnyone, IsOfShard}
use Rattle.r6_world.specs.Witness.{after_all}
use Rattle.r6_world.proofs.Tables.{put-same, put-other}
use Rattle.r6_world.proofs.Acts.Points.{put_in-same}
use Rattle.r6_world.proofs.Witness.Pieces.{after-append}
use Rattle.r6_world.proofs.Changes.{step-kept}
use Rattle.r6_world.proofs.Register.RegisterCalls.{IsNumbered}
use Rattle.r6_world.proofs.Register.Renewals.{renewed-call}
use Rattle.r6_course.specs.Courses.{Start, IsLawful, Mark, Reached, Tells, first_world, looked_by, looked_after, looked_of}
use Rattle.r6_course.specs.Steps.{OthersAreAlike, HandingGoesOn, LettingGoesOn, SeenLaw}
use Rattle.r6_course.proofs.Reached.{IsKept, run-append, holds-along, looked-more}
use Rattle.r6_course.proofs.Calls.{tells-alike}
use Rattle.r6_course.proofs.Performing.{stands-elsewhere, part-cases}
use Rattle.r6_course.proofs.Looked.{HasUpTo, IsUpTo, up-to-later, command-below, missing-below, first-below, up-to-kept, broken-below, looks}

unless-on : (b : Bool) (x y z : Block) → (b ≡ true → ⊥) → y ≡ z → (if b then x else y) ≡ z
unless-on true x y z none e = absurd (none refl)
unless-on false x y z none e = e

unless-alike : (b : Bool) (x y z : Block) → y ≡ z → (if b then x else y) ≡ (if b then x else z)
unless-alike true x y z e = refl
unless-alike false x y z e = e

some-command : (o : Option Command) → o ≢ None → (c : Command) × (o ≡ Some c)
some-command None ne = absurd (ne refl)
some-command (Some c) ne = (c, refl)

-- what may happen does not depend on what the devices have
may-come-beside : (w : World) (devices : Devices) (n : ℕ) (event : Event) → MayCome w n event → MayCome (record w { device = devices }) n event
may-come-beside w devices n (Deliver token (Good b) receipt) come = come
may-come-beside w devices n (Deliver token Error receipt) come = come
may-come-beside w devices n (Deliver token Read_error receipt) come = come
may-come-beside w devices n event come = come

possible-beside : (l : Layout) (w : World) (devices : Devices) (h : Happening) → Possible l IsByAnyone w h
    → Possible l IsByAnyone (record w { device = devices }) h
possible-beside l w devices (Core n event new) p = (p.0, may-come-beside w devices n event p.1, p.2)
possible-beside l w devices (Perform n token c) p = p
possible-beside l w devices (Tell n call answer middle new) p = p
possible-beside l w devices (Outside call) p = p

-- where devices are alike, they are so once a command was performed
pub performed-alike : (a b : Devices) (c : Command) (transfer : Transfer) (slot g row : ℕ) → a slot g row ≡ b slot g row
    → performed_on a c transfer slot g row ≡ performed_on b c transfer slot g row
performed-alike a b c Fetch slot g row e = e
performed-alike a b c Storing slot g row e = e
performed-alike a b c (Store block) slot g row e = elim (cases_eq slot c.slot) [
  | inr ne ↦ apart (λ here. ne here.0)
  | inl same ↦ elim (cases_eq g c.generation) [
    | inr ne ↦ apart (λ here. ne here.1)
    | inl same' ↦
        stored a same same' ∙ at (ap (λ y. a y c.generation row) (sym same) ∙ ap (λ y. a slot y row) (sym same') ∙ e ∙ ap (λ y. b slot y row) same' ∙ ap (λ y. b y c.generation row) same)
        ∙ sym (stored b same same')
  ]
]
  where
    apart : ((slot ≡ c.slot) × (g ≡ c.generation) → ⊥) → performed_on a c (Store block) slot g row ≡ performed_on b c (Store block) slot g row
    apart ne = stands-elsewhere a c (Store block) slot g row ne ∙ e ∙ sym (stands-elsewhere b c (Store block) slot g row ne)

    stored : (d : Devices) → slot ≡ c.slot → g ≡ c.generation
        → performed_on d c (Store block) slot g row ≡ put (d c.slot c.generation) c.row block row
    stored d same same' =
        ap (λ y. performed_on d c (Store block) y g row) same
        ∙ ap (λ (y : ℕ → Block). y row) (put_in-same d c.slot c.generation (put (d c.slot c.generation) c.row block) g same')

    at : a c.slot c.generation row ≡ b c.slot c.generation row
        → put (a c.slot c.generation) c.row block row ≡ put (b c.slot c.generation) c.row block row
    at alike = elim (cases_eq row c.row) [
      | inl here ↦ put-same (a c.slot c.generation) c.row block row here ∙ sym (put-same (b c.slot c.generation) c.row block row here)
      | inr ne ↦ put-other (a c.slot c.generation) c.row block row ne ∙ alike ∙ sym (put-other (b c.slot c.generation) c.row block row ne)
    ]

-- the shard has nothing of a later generation than it looked at, and the register none than it counts
record Heard (s : Start) (looked : ℕ) (w : World) : Type 0 where
  counted : looked ≤ w.register.attaches
  shard : IsUpTo looked (w.shard s.number)
  broke : (slot g : ℕ) → w.broken s.number slot g ≡ true → g ≤ looked

-- at the start devices have no later generation than 0
slot-first : (status : Status) → HasUpTo 0 (slot_at_start status)
slot-first (InSync g) = first-below
slot-first Lost = missing-below 0
slot-first (Rebuilding g by) = missing-below 0
slot-first (Replacing old new by) = missing-below 0

module _ (s : Start) (lawful : IsLawful s) where
  -- attaches count up
  more-attaches : (w : World) (plain : Plain) → IsKept s w plain → (call : RegisterCall) (answer : Answer)
      → IsAnswer s.layout w.register call answer
      → w.register.attaches ≤ (register_after s.layout w.register call answer).attaches
  more-attaches w plain x call answer (inl e) =
      subst (λ y. w.register.attaches ≤ (register_after s.layout w.register call y).attaches) (sym e)
      ((renewed-call s.layout lawful.layout w.register x.register call).more)
  more-attaches w plain x call answer (inr e) =
      subst (λ y. w.register.attaches ≤ (register_after s.layout w.register call y).attaches) (sym e) (omega arith)

  -- a call of the core that isn't a look keeps to what was looked at
  still-up-to : (top : ℕ) (event : Event) (old new : Shard) → ((seen : Snapshot) → event ≡ Look seen → ⊥) → Step s.layout s.number old event new
      → IsUpTo top old → IsUpTo top new
  still-up-to top event old new none step =
      step-kept s.layout s.number (IsUpTo top) event (up-to-kept s.layout s.number top event (λ seen e. absurd (none seen e))) old new step

  -- what the core looks at
  record Looks (looked : ℕ) (w : World) (event : Event) (new : Shard) : Type 0 where
    more : looked ≤ looked_by event looked
    counted : looked_by event looked ≤ w.register.attaches
    shard : IsUpTo (looked_by event looked) new

  looks-on : (w : World) (plain : Plain) → IsKept s w plain → (looked : ℕ) → looked ≤ w.register.attaches → (event : Event) (old new : Shard)
      → MayCome w s.number event → Step s.layout s.number old event new → IsUpTo looked old → Looks looked w event new
  looks-on w plain x looked low event old new come step up = elim (looks event) [
    | inl q ↦ subst (λ y. Looks looked w y new) (sym q.1) (sees q.0 (subst (MayCome w s.number) q.1 come) (subst (λ y. Step s.layout s.number old y new) q.1 step))
    | inr none ↦
        let same = none.0 looked in
        record {
          more = omega arith;
          counted = omega arith;
          shard = subst (λ y. IsUpTo y new) (sym same) (still-up-to looked event old new none.1 step up);
        }
  ]
    where
      sees : (seen : Snapshot) → seen ≡ w.register → Step s.layout s.number old (Look seen) new → Looks looked w (Look seen) new
      sees seen is step =
          let attaches : seen.attaches ≡ w.register.attaches = ap (λ (y : Snapshot). y.attaches) is in
          let more : looked ≤ seen.attaches = omega arith in
          record {
            more = more;
            counted = omega arith;
            shard = step-kept s.layout s.number (IsUpTo seen.attaches) (Look seen)
                (up-to-kept s.layout s.number seen.attaches (Look seen) (λ other e slot.
                subst (λ (y : Snapshot). IsNumbered seen.attaches (status_of y slot)) (same-look seen other e)
                (subst (λ (y : Snapshot). IsNumbered y.attaches (status_of y slot)) (sym is) (x.register.numbered slot)))) old new step
                (up-to-later looked seen.attaches more old up);
          }
        where
          same-look : (a b : Snapshot) → Look a ≡ Look b → a ≡ b
          same-look a b e = cc

  heard-next : (w : World) (plain : Plain) (m : Moment) (looked : ℕ) → IsKept s w plain → Possible s.layout IsByAnyone w m.happening
      → IsOfShard s.number m.happening → Heard s looked w
      → (looked ≤ looked_after m.happening looked) × Heard s (looked_after m.happening looked) (next s.layout w m)
  heard-next w plain m looked x possible own y = at m.happening possible own
    where
      l : Layout
      l = s.layout

      n : ℕ
      n = s.number

      at : (h : Happening) → Possible l IsByAnyone w h → IsOfShard n h
          → (looked ≤ looked_after h looked) × Heard s (looked_after h looked) (next l w (record { happening = h; noise = m.noise }))
      at (Core k event new) p o =
          let k' : k ≡ n = o in
          let come = subst (λ z. MayCome w z event) k' p.1 in
          let step = subst (λ z. Step l z (w.shard z) event new) k' p.2 in
          let z = looks-on w plain x looked y.counted event (w.shard n) new come step y.shard in (
            z.more,
            record {
              counted = z.counted;
              shard = subst (IsUpTo (looked_by event looked)) (sym (put-same w.shard k new n (sym o))) z.shard;
              broke = λ slot g e.
                  let more = z.more in
                  let low = broken-below looked (w.shard n) y.shard event (w.broken n) y.broke slot g
                  (subst (λ q. broken_by (w.shard q) event (w.broken q) slot g ≡ true) k'
                  (ap (λ (q : ℕ → ℕ → Bool). q slot g) (sym (put-same w.broken k (broken_by (w.shard k) event (w.broken k)) n (sym o))) ∙ e)) in
                  omega arith;
            },
          )
      at (Perform k token c) p o = (omega arith, record { counted = y.counted; shard = y.shard; broke = y.broke })
      at (Outside call) p o =
          let a = more-attaches w plain x call (answer_to l w.register call) (inl refl) in
          let low = y.counted in
          (omega arith, record { counted = omega arith; shard = y.shard; broke = y.broke })
      at (Tell k call answer middle new) p o =
          let a = more-attaches w plain x (as_made k call) answer p.1 in
          let low = y.counted in
          let takes = subst (λ z. Step l z (w.shard z) (Take_call call) middle) o p.2 in
          let tells = subst (λ z. Step l z middle (Told call answer) new) o p.3 in (
            omega arith,
            record {
              counted = omega arith;
              shard = subst (IsUpTo looked) (sym (put-same w.shard k new n (sym o)))
                  (still-up-to looked (Told call answer) middle new (λ seen e. cc) tells
                  (still-up-to looked (Take_call call) (w.shard n) middle (λ seen e. cc) takes y.shard));
              broke = y.broke;
            },
          )

  -- the same run from a start in which one device has other blocks
  record Twin (device : Devices) (slot g : ℕ) (w : World) (moments : List Moment) : Type 0 where
    devices : Devices
    run : Run s.layout IsByAnyone (first_world (record s { device = device })) moments
    leads : after_all s.layout (first_world (record s { device = device })) moments ≡ record w { device = devices }
    others : (other g' row : ℕ) → ((other ≡ slot) × (g' ≡ g) → ⊥) → devices other g' row ≡ w.device other g' row
    here : (row : ℕ) → IsRowOf s.layout s.number row → devices slot g row ≡ device slot g row

  twin-next : (device : Devices) (slot g : ℕ) (w : World) (plain : Plain) (moments : List Moment) (m : Moment) (looked : ℕ) → IsKept s w plain
      → Possible s.layout IsByAnyone w m.happening → IsOfShard s.number m.happening → Heard s looked w → looked < g
      → ((other row : ℕ) → (next s.layout w m).broken s.number slot g ≡ false)
      → Twin device slot g w moments → Twin device slot g (next s.layout w m) (moments ++ m ∷ [])
  twin-next device slot g w plain moments m looked x possible own y above whole z =
      let l = s.layout in
      let first = first_world (record s { device = device }) in
      let beside : World = record w { device = z.devices } in
      record {
        devices = (next l beside m).device;
        run = run-append l first moments (m ∷ []) z.run
            (subst (λ v. Possible l IsByAnyone v m.happening) (sym z.leads) (possible-beside l w z.devices m.happening possible), record {});
        leads = after-append l first moments (m ∷ []) ∙ ap (λ v. next l v m) z.leads ∙ same-next m.happening possible own;
        others = λ other g' row ne. others m.happening possible own other g' row ne;
        here = λ row there.
            unless-on ((next l beside m).broken (l.shard_of row) slot g) (m.noise slot g row) ((happened l beside m.happening).device slot g row)
            (device slot g row) (λ broken. false≢true (sym (whole slot row) ∙ still m.happening row there broken)) (here m.happening possible own row there);
      }
    where
      l : Layout
      l = s.layout

      beside : World
      beside = record w { device = z.devices }

      -- a command that is performed goes to another device
      elsewhere : (k token : ℕ) (c : Command) → Possible l IsByAnyone w (Perform k token c) → k ≡ s.number → (other g' : ℕ) → (other ≡ slot) × (g' ≡ g)
          → (other ≡ c.slot) × (g' ≡ c.generation) → ⊥
      elsewhere k token c p o other g' there here =
          let in_flight = ap (λ y. w.flight y token) (sym o) ∙ p.1 in
          let out = some-command ((w.shard s.number).command token) (λ e. p.2 (ap (λ y. (w.shard y).command token) o ∙ e)) in
          let same = ((x.sounds s.number refl).flies.same token c out.0 in_flight out.1).generation in
          let low = command-below looked (w.shard s.number) token out.0 y.shard out.1 in
          let a = there.1 in
          let b = here.1 in
          absurd (omega arith)

      gives : (k token : ℕ) (c : Command) → Possible l IsByAnyone w (Perform k token c) → k ≡ s.number
          → given z.devices c c.transfer ≡ given w.device c c.transfer
      gives k token c p o = at c.transfer
        where
          at : (transfer : Transfer) → given z.devices c transfer ≡ given w.device c transfer
          at Fetch = z.others c.slot c.generation c.row (λ there. elsewhere k token c p o c.slot c.generation there (refl, refl))
          at (Store b) = refl
          at Storing = refl

      same-next : (h : Happening) → Possible l IsByAnyone w h → IsOfShard s.number h
          → next l beside (record { happening = h; noise = m.noise })
          ≡ record (next l w (record { happening = h; noise = m.noise })) { device = (next l beside (record { happening = h; noise = m.noise })).device }
      same-next (Core k event new) p o = refl
      same-next (Outside call) p o = refl
      same-next (Tell k call answer middle new) p o = refl
      same-next (Perform k token c) p o =
          ap (λ b. record (next l beside (record { happening = Perform k token c; noise = m.noise })) { performed = put_in w.performed k token (Some b) })
          (gives k token c p o)

      others : (h : Happening) → Possible l IsByAnyone w h → IsOfShard s.number h → (other g' row : ℕ) → ((other ≡ slot) × (g' ≡ g) → ⊥)
          → (next l beside (record { happening = h; noise = m.noise })).device other g' row ≡ (next l w (record { happening = h; noise = m.noise })).device other g' row
      others (Core k event new) p o other g' row ne =
          unless-alike ((happened l w (Core k event new)).broken (l.shard_of row) other g') (m.noise other g' row) (z.devices other g' row) (w.device other g' row) (z.others other g' row ne)
      others (Outside call) p o other g' row ne = unless-alike (w.broken (l.shard_of row) other g') (m.noise other g' row) (z.devices other g' row) (w.device other g' row) (z.others other g' row ne)
      others (Tell k call answer middle new) p o other g' row ne = unless-alike (w.broken (l.shard_of row) other g') (m.noise other g' row) (z.devices other g' row) (w.device other g' row) (z.others other g' row ne)
      others (Perform k token c) p o other g' row ne =
          unless-alike (w.broken (l.shard_of row) other g') (m.noise other g' row) (performed_on z.devices c c.transfer other g' row) (performed_on w.device c c.transfer other g' row)
          (performed-alike z.devices w.device c c.transfer other g' row (z.others other g' row ne))

      still : (h : Happening) (row : ℕ) → IsRowOf l s.number row → (next l beside (record { happening = h; noise = m.noise })).broken (l.shard_of row) slot g ≡ true
          → (next l w (record { happening = h; noise = m.noise })).broken s.number slot g ≡ true
      still (Core k event new) row there e = subst (λ n. (next l w (record { happening = Core k event new; noise = m.noise })).broken n slot g ≡ true) there.1 e
      still (Outside call) row there e = subst (λ n. w.broken n slot g ≡ true) there.1 e
      still (Tell k call answer middle new) row there e = subst (λ n. w.broken n slot g ≡ true) there.1 e
      still (Perform k token c) row there e = subst (λ n. w.broken n slot g ≡ true) there.1 e

      here : (h : Happening) → Possible l IsByAnyone w h → IsOfShard s.number h → (row : ℕ) → IsRowOf l s.number row
          → (happened l beside h).device slot g row ≡ device slot g row
      here (Core k event new) p o row there = z.here row there
      here (Outside call) p o row there = z.here row there
      here (Tell k call answer middle new) p o row there = z.here row there
      here (Perform k token c) p o row there =
          stands-elsewhere z.devices c c.transfer slot g row (elsewhere k token c p o slot g (refl, refl)) ∙ z.here row there

  -- where the core has not looked at such a device, another of any blocks could stand there
  beside : (device : Devices) (slot g : ℕ) → OthersAreAlike slot g s.device device → (w : World) (history : List Mark) (x : Reached s w history)
      → looked_of 0 x.moments < g → Twin device slot g w x.moments
  beside device slot g alike w history x =
      (holds-along s lawful (λ w before plain. Heard s (looked_of 0 before) w × (looked_of 0 before < g → Twin device slot g w before)) (
        record {
          counted = omega arith;
          shard = ((λ slot. slot-first (status_of s.register slot)), λ token. record {});
          broke = λ slot g e. absurd (false≢true e);
        },
        λ above. record {
          devices = device;
          run = record {};
          leads = refl;
          others = λ other g' row ne. ap (λ (y : ℕ → Block). y row) (alike other g' ne);
          here = λ row there. refl;
        },
      )
      (λ w before plain m k p possible own k'.
      let looked = looked_of 0 before in
      let y = heard-next w plain m looked k possible own p.0 in
      subst (λ z. Heard s z (next s.layout w m) × (z < g → Twin device slot g (next s.layout w m) (before ++ m ∷ []))) (sym (looked-more 0 before m)) (
        y.1,
        λ above.
            let more = y.0 in
            let above' : looked < g = omega arith in
            twin-next device slot g w plain before m looked k possible own p.0 above'
            (λ other row. elim (cases_Bool ((next s.layout w m).broken s.number slot g)) [
              | inl broken ↦ let low = y.1.broke slot g broken in absurd (omega arith)
              | inr whole ↦ whole
            ]) (p.1 above'),
      )) w history x).2.1

pub handing_goes_on : HandingGoesOn
handing_goes_on s lawful device at slot g telling x above alike tells =
    let t : Start = record s { device = device } in
    let z = beside s lawful device slot g alike x.world at.history x.reached (subst (λ y. y < g) (sym x.looked) above) in
    record {
      world = record x.world { device = z.devices };
      reached = record { moments = x.reached.moments; own = x.reached.own; run = z.run; world = z.leads; marks = x.reached.marks };
      shard = x.shard;
      register = x.register;
      looked = x.looked;
      sees = x.sees;
      named = x.named;
      in_flight = x.in_flight;
      parts = λ other g' found there ok. elim (part-cases at.part slot g telling other g' found there) [
        | inl q ↦
            subst (λ y. Tells t (z.devices y g') found) (sym q.0)
            (subst (λ y. Tells t (z.devices slot y) found) (sym q.1)
            (subst (Tells t (z.devices slot g)) q.2
            (tells-alike t (device slot g) (z.devices slot g) telling (λ row in'. z.here row in') tells)))
        | inr q ↦
            tells-alike t (x.world.device other g') (z.devices other g') found (λ row in'. z.others other g' row q.0) (x.parts other g' found q.1 ok)
      ];
    }

pub letting_goes_on : LettingGoesOn
letting_goes_on s at part x fewer =
    record {
      world = x.world;
      reached = x.reached;
      shard = x.shard;
      register = x.register;
      looked = x.looked;
      sees = x.sees;
      named = x.named;
      in_flight = x.in_flight;
      parts = λ slot g telling there ok. x.parts slot g telling (fewer slot g telling there) ok;
    }

-- ---- commands go to devices that were looked at

heard-along : (s : Start) (lawful : IsLawful s) (w : World) (history : List Mark) (x : Reached s w history) → Heard s (looked_of 0 x.moments) w
heard-along s lawful w history x =
    (holds-along s lawful (λ w before plain. Heard s (looked_of 0 before) w)
    (record {
      counted = omega arith;
      shard = ((λ slot. slot-first (status_of s.register slot)), λ token. record {});
      broke = λ slot g e. absurd (false≢true e);
    })
    (λ w before plain m k p possible own k'.
    subst (λ z. Heard s z (next s.layout w m)) (sym (looked-more 0 before m))
    (heard-next s lawful w plain m (looked_of 0 before) k possible own p).1) w history x).2

pub seen_law : SeenLaw
seen_law s lawful at token c x e =
    let h = heard-along s lawful x.world at.history x.reached in
    subst (λ y. c.generation ≤ y) x.looked
    (command-below (looked_of 0 x.reached.moments) (x.world.shard s.number) token c h.shard (ap (λ (y : Shard). y.command token) x.shard ∙ e))
