use Rattle.std.proofs.Common.{◌≡◌, Some, slice_index_or, refl, sym, ◌∙◌, ap, arith}
use Rattle.lvm_quorum.specs.passed.Transfer.{Media, image_of, Here}
use Rattle.lvm_quorum.specs.Surveyed.{IsRead}
use Rattle.lvm_quorum.specs.Reading.{IsArea}
use Rattle.lvm_quorum.proofs.passed.Transfer.{or_got, told-always, told-more, only_none, rested_none, stop_of}
use Rattle.lvm_quorum.proofs.SurveyedLemmas.DiskRows.{empty_is_read, small_has_none, area_is_read, large_has, not_small}
use Rattle.lvm_quorum.proofs.survey.survey_disk.Goals as goal

pub returns-then-sectors-lt-DATA_START-clause-only : goal.returns-then-sectors-lt-DATA_START-clause-only
returns-then-sectors-lt-DATA_START-clause-only g c = only_none c.args.patience.now.left (g.S.Shelf.device c.args.shelf.now)

pub returns-then-sectors-lt-DATA_START-clause-gives : goal.returns-then-sectors-lt-DATA_START-clause-gives
returns-then-sectors-lt-DATA_START-clause-gives g c =
    let old = (g.S.Shelf.device c.args.shelf.now) in
    let row = c.empty_row.result in (
      rested_none old c.requires.ready,
      record {
        disk_is = c.empty_row.ensures.is.0;
        sectors = c.sectors-sectors.ensures ∙ ap Some (sym c.empty_row.ensures.is.1);
        valid = c.empty_row.ensures.valid;
        homes = c.empty_row.ensures.homes;
        failed = λ is. absurd (let e = c.empty_row.ensures.is.2 in cc);
        answered = λ is. refl;
        read = λ is. told-always (λ (m : Media). IsRead (image_of old.sizes m) c.args.disk row) old.media (λ m. empty_is_read (image_of old.sizes m) c.args.disk row (small_has_none old.sizes m c.args.disk c.sectors-sectors.result c.sectors-sectors.ensures c.if-sectors-lt-DATA_START.true) c.empty_row.ensures.empty);
        whole = λ is large. absurd (large (let same : slice_index_or old.sizes c.args.disk 0 ≡ c.sectors-sectors.result = or_got old.sizes c.args.disk 0 c.sectors-sectors.result c.sectors-sectors.ensures in omega arith));
        empty = λ is. c.empty_row.ensures.empty;
      },
      refl,
    )

pub read_area-requires-clause-large : goal.read_area-requires-clause-large
read_area-requires-clause-large g c =
    let same : slice_index_or (g.S.Shelf.device c.args.shelf.now).sizes c.args.disk 0 ≡ c.sectors-sectors.result = or_got (g.S.Shelf.device c.args.shelf.now).sizes c.args.disk 0 c.sectors-sectors.result c.sectors-sectors.ensures in omega arith

pub returns-in-Ok-clause-elsewhere : goal.returns-in-Ok-clause-elsewhere
returns-in-Ok-clause-elsewhere g c d small = c.in-Ok.ensures.reads.elsewhere d (not_small (g.S.Shelf.device c.args.shelf.now) c.args.disk c.sectors-sectors.result d c.sectors-sectors.ensures c.if-sectors-lt-DATA_START.false small)

pub returns-in-Ok-clause-gives : goal.returns-in-Ok-clause-gives
returns-in-Ok-clause-gives g c =
    let old = (g.S.Shelf.device c.args.shelf.now) in
    let disk = c.args.disk in
    let row = c.row_of.result in
    let says = c.row_of.ensures in
    let read = c.in-Ok.ensures.reads.gives in
    let sectors = c.sectors-sectors.ensures in (
      read.0.rested,
      record {
        disk_is = says.is.0;
        sectors = sectors ∙ ap Some (sym says.is.1);
        valid = says.valid;
        homes = says.homes;
        failed = λ is. absurd (let e = says.is.2 in cc);
        answered = λ is. read.0.misses;
        read = λ is. told-more (λ (m : Media). IsArea (m disk) c.in-Ok.area) (λ (m : Media). IsRead (image_of old.sizes m) disk row) old.media
            (λ m is. area_is_read (image_of old.sizes m) disk c.in-Ok.area row (large_has old.sizes m disk c.sectors-sectors.result sectors c.requires.there c.if-sectors-lt-DATA_START.false) is says.found)
            c.in-Ok.ensures.area;
        whole = λ is large. record { begun = old; done = g.S.Shelf.device c.read_area.new.shelf; before = Here tt; reads = c.in-Ok.ensures.whole; after = Here tt };
        empty = λ is. absurd (let e = says.is.2 in cc);
      },
      read.1,
    )

pub returns-in-Err-Failed-clause-elsewhere : goal.returns-in-Err-Failed-clause-elsewhere
returns-in-Err-Failed-clause-elsewhere g c d small = c.in-Err-Failed.ensures.reads.elsewhere d (not_small (g.S.Shelf.device c.args.shelf.now) c.args.disk c.sectors-sectors.result d c.sectors-sectors.ensures c.if-sectors-lt-DATA_START.false small)

pub returns-in-Err-Stopped-clause-elsewhere : goal.returns-in-Err-Stopped-clause-elsewhere
returns-in-Err-Stopped-clause-elsewhere g c d small = c.in-Err-Stopped.ensures.reads.elsewhere d (not_small (g.S.Shelf.device c.args.shelf.now) c.args.disk c.sectors-sectors.result d c.sectors-sectors.ensures c.if-sectors-lt-DATA_START.false small)

pub returns-in-Err-Stopped-clause-gives : goal.returns-in-Err-Stopped-clause-gives
returns-in-Err-Stopped-clause-gives g c =
    let reads = rw c.in-Err-Stopped.field-0-is at c.in-Err-Stopped.ensures.reads in
    stop_of c.args.disk c.args.buf.number c.args.patience.now.left c.read_area.new.patience.left (g.S.Shelf.device c.args.shelf.now) (g.S.Shelf.device c.read_area.new.shelf) c.in-Err-Stopped.why reads
