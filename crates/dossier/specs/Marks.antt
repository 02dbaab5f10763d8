-- Document 01, "The dossier": "Each record has a two-byte mark in ASCII"; ST is of request #102, PL and PY of #103, CR of #106.
-- To be believed. Assumes nothing.
use Rattle.std.specs.Prelude.{ℕ}

-- the two letters as one number of two bytes
abbrev pub mark_hd : ℕ
mark_hd = 0x4844

abbrev pub mark_st : ℕ
mark_st = 0x5354

abbrev pub mark_pa : ℕ
mark_pa = 0x5041

abbrev pub mark_da : ℕ
mark_da = 0x4441

abbrev pub mark_mp : ℕ
mark_mp = 0x4d50

abbrev pub mark_yr : ℕ
mark_yr = 0x5952

abbrev pub mark_cp : ℕ
mark_cp = 0x4350

abbrev pub mark_cd : ℕ
mark_cd = 0x4344

abbrev pub mark_fu : ℕ
mark_fu = 0x4655

abbrev pub mark_ve : ℕ
mark_ve = 0x5645

abbrev pub mark_ni : ℕ
mark_ni = 0x4e49

abbrev pub mark_li : ℕ
mark_li = 0x4c49

abbrev pub mark_cr : ℕ
mark_cr = 0x4352

abbrev pub mark_pl : ℕ
mark_pl = 0x504c

abbrev pub mark_py : ℕ
mark_py = 0x5059

abbrev pub mark_en : ℕ
mark_en = 0x454e
